use Rattle.std.proofs.Common.{◌≡◌, ◌<◌, ℕ, Bool, true, false, cond, min, is_some, IsTrue, ap, length, refl, rules, subst, sym, arith}
use Rattle.store_types.specs.Names.{key_text}
use Rattle.wire_commands.specs.ReplyText.{files_fit}
use Rattle.snapshot_files.proofs.PathLengths.{key_short}
use Rattle.core_state.specs.declared.listed_row.ListedRow.{ListedRow}
use Rattle.core_admin.proofs.listing.row_of.Goals as goal

-- so many files have a spelling
counted_fit : (damaged : Bool) (n : ℕ) → (cond damaged 0 (min n 255) < 256) × IsTrue (files_fit damaged (cond damaged 0 (min n 255)))
counted_fit true n = (omega arith, refl)
counted_fit false n = (omega arith, refl)

pub returns-clause-listable : goal.returns-clause-listable
returns-clause-listable c =
    let k = c.args.kept.now in
    let is : c.from_vec-snapshot.result ≡ key_text k.key = search rules in
    let same = ap length is in
    let fits = counted_fit (is_some k.unreadable) (length k.files) in
    let told = subst (λ (r : ListedRow). (r.files < 256) × IsTrue (files_fit r.damaged r.files)) (sym c.of-row.ensures) fits in
    (omega (arith, same, key_short k.key c.requires), told.0, told.1)
