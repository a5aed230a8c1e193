use Rattle.std.proofs.Common.{◌++◌, ◌∷◌, [], ◌∙◌, List, ℕ, map, take, string_bytes, arith, ap, sym, subst, inl}
use Rattle.std.specs.Prelude.{IsTrue}
use Rattle.std.specs.FinMap.{get, entries, entries_sorted, is_sorted}
use Rattle.std.proofs.lemmas.List.{take_more, take_all, map_push}
use Rattle.disk_trait.specs.Files.{Files}
use Rattle.disk_trait.specs.Runs.{both_serve, same_after}
use Rattle.plain_snapshots.specs.Loading.{found_at}
use Rattle.plain_snapshots.proofs.ReadingDisk.{read_at, read_at-push, disk_read}
use Rattle.plain_snapshots.proofs.Searching.{is_true}
use Rattle.store_types.specs.Names.{text_cmp}
use Rattle.plain_snapshots.proofs.stored.read_all.Goals as goal

pub loop-name-init : goal.loop-name-init
loop-name-init g c =
    let s = c.in_ok-names.ensures.serves in
    record {
      serves = record { kept = s.kept; count = s.count; cause = λ h. absurd h };
      same = c.in_ok-names.ensures.same;
      crash = c.in_ok-names.ensures.crash;
      files = λ h. c.new-files.ensures.items;
    }

pub loop-name-preserved : goal.loop-name-preserved
loop-name-preserved g c = let d = g.D.Disk in
    let i = c.loop-name.name-index in
    let xs = c.deref-name-items.result.now in
    let x = c.name-item.result in
    let name = string_bytes x in
    let old = c.loop-name.files.items in
    let now = d.content c.args.disk.now in
    let inv = c.loop-name.invariant in
    let more = take_more xs i x (omega arith) ∙ ap (λ y. take i xs ++ y ∷ []) (sym c.name-item.is) in
    let names = ap (map string_bytes) more ∙ map_push string_bytes (take i xs) x in
    record {
      serves = both_serve d.honest d.faults _ _ _ ⊥ _ ⊥ inv.serves c.read_into.ensures.serves inl;
      same = λ h. c.in_ok-read_into.ensures.same (inv.serves.kept.0 h) ∙ inv.same h;
      crash = same_after inv.crash c.read_into.ensures.crash;
      files = λ h.
          c.in_ok-read_into.ensures.files (inv.serves.kept.0 h)
          ∙ ap (λ (n : List ℕ). old ++ found_at n (get (d.content c.loop-name.disk) n)) c.as_str.ensures.value
          ∙ ap (λ (m : Files). old ++ found_at name (get m name)) (inv.same h)
          ∙ ap (λ l. l ++ found_at name (get now name)) (inv.files h)
          ∙ sym (read_at-push (get now) (map string_bytes (take i xs)) name)
          ∙ ap (read_at (get now)) (sym names);
    }

pub returns-clause-serves : goal.returns-clause-serves
returns-clause-serves g c =
    let s = c.loop-name.invariant.serves in
    record { kept = s.kept; count = s.count; cause = λ h. cc }

pub returns-clause-files : goal.returns-clause-files
returns-clause-files g c = let d = g.D.Disk in λ h.
    let i = c.loop-name.name-index in
    let xs = c.deref-name-items.result.now in
    let now = d.content c.args.disk.now in
    let all =
    c.loop-name.invariant.files h
    ∙ ap (λ l. read_at (get now) (map string_bytes l)) (take_all i xs (omega arith) ∙ c.deref-name-items.ensures.value)
    ∙ ap (read_at (get now)) (c.in_ok-names.ensures.names h)
    ∙ disk_read now in
    c.of.ensures (subst (λ l. IsTrue (is_sorted text_cmp l)) (sym all) (is_true (is_sorted text_cmp (entries now)) (entries_sorted now))) ∙ all

pub returns-in_err-read_into-clause-crash : goal.returns-in_err-read_into-clause-crash
returns-in_err-read_into-clause-crash g c = same_after c.loop-name.invariant.crash c.read_into.ensures.crash
