-- Texts of snapshots, of files and of what is reported.
use Rattle.std.proofs.Common.{◌≡◌, ◌≤◌, ◌<◌, ◌*◌, ◌^◌, ℕ, true, List, [], ◌∷◌, length, Option, None, Some, refl, ap, arith, length-append}
use Rattle.std.specs.Prelude.{All, filter, is_some}
use Rattle.std.specs.List.{flat_map}
use Rattle.std.proofs.lemmas.Bool.{false≢true}
use Rattle.std.proofs.lemmas.List.Elements.{All-head, All-tail, filter_passes}
use Rattle.store_types.specs.declared.names.SnapshotKey.{SnapshotKey}
use Rattle.store_types.specs.declared.refusal.Refusal.TheVariants.{Unreadable}
use Rattle.store_types.specs.Names.{key_of}
use Rattle.store_types.proofs.KeyLaws.{key_one}
use Rattle.snapshot_files.proofs.PathLengths.{key_short}
use Rattle.wire_commands.specs.declared.reply.Reply.TheVariants.{Data, Keys, Refused}
use Rattle.wire_commands.specs.ReplyText.{reply_text}
use Rattle.wire_commands.specs.Fields.{text}
use Rattle.wire_commands.specs.RefusalText.{refusal_text}
use Rattle.wire_commands.specs.HasText.{IsText, ReplyHasText}
use Rattle.store_history.specs.Pulling.{is_key}
use Rattle.pull_steps.specs.States.{IsShort}

-- ---- the texts of snapshots

by_key : (t : List ℕ) (key : Option SnapshotKey) → key_of t ≡ key → is_some key ≡ true → IsShort t
by_key t None is some = absurd (false≢true some)
by_key t (Some k) is some =
    let one = key_one t k is in
    omega (arith, ap length one.1, key_short k one.0)

pub key_is_short : (t : List ℕ) → is_key t ≡ true → IsShort t
key_is_short t is = by_key t (key_of t) refl is

pub keys_short : (texts : List (List ℕ)) → All IsShort (filter is_key texts)
keys_short texts = λ i d lt. key_is_short _ (filter_passes is_key texts i d lt)

-- ---- what is reported

texts_length : (texts : List (List ℕ)) → All IsShort texts → length (flat_map text texts) ≤ 101 * length texts
texts_length [] short = omega arith
texts_length (t ∷ ts) short =
    let first = All-head IsShort t ts short in
    let rest = texts_length ts (All-tail IsShort t ts short) in
    simp length-append (omega (arith, first, rest))

shorter : (texts : List (List ℕ)) → All IsShort texts → All IsText texts
shorter texts short = λ i d lt. omega (arith, short i d lt)

pub keys_text : (texts : List (List ℕ)) → length texts ≤ 4096 → All IsShort texts → ReplyHasText (Keys texts)
unfolding reply_text
keys_text texts few short = ((omega arith, shorter texts short), simp length-append (omega (arith, few, texts_length texts short)))

pub unreadable_text : (path : List ℕ) → IsText path → ReplyHasText (Refused (Unreadable path))
unfolding reply_text refusal_text
unreadable_text path short = (short, omega (arith, short))

-- ---- a blob

pub blob_small : (blob : List ℕ) → ReplyHasText (Data blob) → length blob < 2 ^ 32
unfolding reply_text
blob_small blob spelled = omega (arith, spelled.1)
