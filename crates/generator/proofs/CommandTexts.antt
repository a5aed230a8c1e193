-- Each command of a session has a text.
use Rattle.std.proofs.Common.{◌≡◌, ℕ, suc, ◌+◌, ◌*◌, ◌^◌, ◌<◌, ◌≤◌, List, [], ◌∷◌, ◌++◌, length, codes, decimal, refl, sym, ap, subst, ◌∙◌, arith, length-append, lit<, lit≤}
use Rattle.std.specs.List.{concat, flat_map}
use Rattle.std.proofs.lemmas.Fmt.{length-decimal-le}
use Rattle.sha2.specs.Sha256.{sha256}
use Rattle.sha2.proofs.Facts256.{length-sha256}
use Rattle.hex.specs.Hex.{encode_lower, lower_digits}
use Rattle.hex.proofs.HexLemmas.{length-encode_with}
use Rattle.store_types.specs.declared.names.Digest32.{Digest32}
use Rattle.store_types.specs.FileNames.{manifest_name}
use Rattle.blob_codec.specs.Blob.{blob, FitsBlob}
use Rattle.wire_commands.specs.CommandText.{command_text, entry_text, keep_text}
use Rattle.wire_commands.specs.Fields.{u64}
use Rattle.wire_commands.specs.HasText.{HasText, FitsCommand, IsDigest}
use Rattle.wire_commands.specs.declared.command.Command.{Command}
use Rattle.wire_commands.specs.declared.command.Command.TheVariants.{OpenWriter, Previous, NewDynamic, Append, CloseIndex, Blob, Finish, Forget, Prune, Verify, Gc, Bye}
use Rattle.generator.specs.Pieces.{pieces}
use Rattle.generator.specs.Archives.{begins_from, size_of, csum_of}
use Rattle.generator.specs.Manifests.{id_of, group_of, snapshot_of, time_of, archive_name, manifest_text}
use Rattle.generator.specs.Sessions.{chunk_of, two_last}
use Rattle.generator.proofs.PieceLemmas.{FitsPiece, all_fit, length-pieces, size_small, length-begins, entries_fit}
use Rattle.std.specs.Prelude.{false}

-- a command with a text that is short
pub record Small (c : Command) : Type 0 where
  pub fits : FitsCommand c
  pub size : length (command_text c) ≤ 5164

pub has_text : (c : Command) → Small c → HasText c
has_text c h = (h.fits, omega (arith, h.size))

-- ---- names

pub short_id : (k : ℕ) → k ≤ 63 → length (id_of k) ≤ 3
short_id k h = omega (arith, length-decimal-le 2 k (lit< tt) (omega arith) (omega arith))

pub short_group : (k : ℕ) → k ≤ 63 → length (group_of k) ≤ 8
short_group k h = omega (arith, short_id k h)

pub short_snapshot : (k j : ℕ) → k ≤ 63 → j < 4 → length (snapshot_of k j) ≤ 29
short_snapshot k j h d =
    let day = decimal (j + 1) in
    let date = group_of k ++ codes "/2020-01-0" in
    let one : length date ≡ length (group_of k) + 10 = length-append (group_of k) (codes "/2020-01-0") in
    let two : length (date ++ day) ≡ length date + length day = length-append date day in
    let all : length (snapshot_of k j) ≡ length (date ++ day) + 10 = length-append (date ++ day) (codes "T00:00:00Z") in
    subst (λ n. n ≤ 29) (sym (all ∙ ap (λ n. n + 10) (two ∙ ap (λ n. n + length day) one)))
    (parts (length (group_of k)) (length day) (short_group k h) (length-decimal-le 1 (j + 1) (lit< tt) (omega arith) (omega arith)))
  where
    parts : (m n : ℕ) → m ≤ 8 → n ≤ 1 → m + 10 + n + 10 ≤ 29
    parts m n a c = omega arith

-- ---- commands of one text

pub open_fits : (name : List ℕ) → length name ≤ 29 → Small (OpenWriter name)
unfolding command_text
open_fits name h = record { fits = omega arith; size = omega arith }

pub verify_fits : (name : List ℕ) → length name ≤ 29 → Small (Verify name)
unfolding command_text
verify_fits name h = record { fits = omega arith; size = omega arith }

pub forget_fits : (name : List ℕ) → length name ≤ 29 → Small (Forget name)
unfolding command_text
forget_fits name h = record { fits = omega arith; size = omega arith }

pub new_fits : Small (NewDynamic archive_name)
unfolding command_text
new_fits = record { fits = lit< tt; size = lit≤ tt }

pub previous_fits : Small (Previous archive_name 0)
unfolding command_text
previous_fits = record { fits = (lit< tt, lit< tt); size = omega arith }

pub prune_fits : (name : List ℕ) → length name ≤ 8 → Small (Prune name two_last false)
unfolding command_text
prune_fits name h =
    let keeps : length (keep_text two_last) ≡ 12 = refl in
    let named : length (name ++ keep_text two_last) ≡ length name + 12 = length-append name (keep_text two_last) in
    let all : length (name ++ keep_text two_last ++ 0 ∷ []) ≡ length (name ++ keep_text two_last) + 1 = length-append (name ++ keep_text two_last) (0 ∷ []) in
    record { fits = (omega arith, (lit< tt, lit< tt, lit< tt, lit< tt, lit< tt, lit< tt)); size = omega (arith, all, named) }

-- ---- commands without fields

pub finish_fits : Small Finish
unfolding command_text
finish_fits = record { fits = tt; size = lit≤ tt }

pub gc_fits : Small Gc
unfolding command_text
gc_fits = record { fits = tt; size = lit≤ tt }

pub bye_fits : Small Bye
unfolding command_text
bye_fits = record { fits = tt; size = lit≤ tt }

-- ---- uploads

length-blob : (p : List ℕ) → length (blob p) ≡ 12 + length p
unfolding blob
length-blob p = omega arith

pub piece_has_blob : (p : List ℕ) → FitsPiece p → FitsBlob p
piece_has_blob p h = omega (arith, h.most)

pub chunk_fits : (p : List ℕ) → FitsPiece p → Small (chunk_of p)
unfolding command_text
chunk_fits p h =
    let all : length (sha256 p ++ blob p) ≡ length (sha256 p) + length (blob p) = length-append (sha256 p) (blob p) in
    record { fits = length-sha256 p; size = omega (arith, all, length-sha256 p, length-blob p, h.most) }

-- a manifest is short

abbrev total : List (List ℕ) → ℕ
total [] = 0
total (x ∷ xs) = length x + total xs

length-concat : (xs : List (List ℕ)) → length (concat xs) ≡ total xs
length-concat [] = refl
length-concat (x ∷ xs) = length-append x (concat xs) ∙ ap (λ n. length x + n) (length-concat xs)

pub short_manifest : (k j : ℕ) (csum : Digest32) (size : ℕ) → k ≤ 63 → j < 4 → IsDigest csum → size < 2 ^ 64 → length (manifest_text k j csum size) ≤ 300
unfolding manifest_text
short_manifest k j csum size h d len fits =
    let all : length (manifest_text k j csum size) ≡ 14 + (length (id_of k) + (16 + (length (decimal (time_of j)) + (60 + (length (encode_lower csum.0) + (32 + (length (decimal size) + 3)))))))
    =
    length-concat (codes "{\"backup-id\":\"" ∷ id_of k ∷ codes "\",\"backup-time\":" ∷ decimal (time_of j)
    ∷ codes ",\"backup-type\":\"host\",\"files\":[{\"crypt-mode\":\"none\",\"csum\":\"" ∷ encode_lower csum.0
    ∷ codes "\",\"filename\":\"root.didx\",\"size\":" ∷ decimal size ∷ codes "}]}" ∷ []) in
    subst (λ n. n ≤ 300) (sym all)
    (parts (length (id_of k)) (length (decimal (time_of j))) (length (encode_lower csum.0)) (length (decimal size)) (short_id k h)
    (length-decimal-le 20 (time_of j) (lit< tt) (omega arith) (omega arith)) (omega (arith, length-encode_with lower_digits csum.0, len))
    (length-decimal-le 20 size (lit< tt) (omega arith) fits))
  where
    parts : (a c e f : ℕ) → a ≤ 3 → c ≤ 20 → e ≤ 64 → f ≤ 20 → 14 + (a + (16 + (c + (60 + (e + (32 + (f + 3))))))) ≤ 300
    parts a c e f g h i j = omega arith

pub blob_fits : (text : List ℕ) → length text ≤ 300 → Small (Blob manifest_name (blob text))
unfolding command_text
blob_fits text h = record { fits = lit< tt; size = omega (arith, length-blob text) }

-- ---- an archive

length-entry : (p : List ℕ) (start : ℕ) → length (sha256 p ++ u64 start) ≡ 40
length-entry p start = length-append (sha256 p) (u64 start) ∙ ap (λ n. n + 8) (length-sha256 p)

length-entries : (start : ℕ) (ps : List (List ℕ)) → length (flat_map entry_text (begins_from start ps)) ≡ 40 * length ps
length-entries start [] = refl
length-entries start (p ∷ ps) =
    length-append (sha256 p ++ u64 start) (flat_map entry_text (begins_from (start + length p) ps))
    ∙ ap (λ n. n + length (flat_map entry_text (begins_from (start + length p) ps))) (length-entry p start)
    ∙ ap (λ n. 40 + n) (length-entries (start + length p) ps) ∙ more (length ps)
  where
    more : (n : ℕ) → 40 + 40 * n ≡ 40 * suc n
    more n = omega arith

pub size_fits : (k j : ℕ) → size_of (pieces k j) < 2 ^ 32
size_fits k j = omega (arith, size_small (pieces k j) (all_fit k j), length-pieces k j)

pub append_fits : (k j : ℕ) → Small (Append 0 (begins_from 0 (pieces k j)))
unfolding command_text
append_fits k j =
    let size = size_fits k j in
    record {
      fits = (lit< tt, omega (arith, length-begins 0 (pieces k j), length-pieces k j), entries_fit 0 (pieces k j) (omega (arith, size)));
      size = omega (arith, length-entries 0 (pieces k j), length-pieces k j);
    }

pub length-csum : (ps : List (List ℕ)) → length (csum_of ps).0 ≡ 32
length-csum ps = length-sha256 _

pub close_fits : (k j : ℕ) → Small (CloseIndex 0 64 (size_of (pieces k j)) (csum_of (pieces k j)))
unfolding command_text
close_fits k j =
    let size = size_fits k j in
    let csum = length-csum (pieces k j) in
    record { fits = (lit< tt, lit< tt, omega (arith, size), csum); size = omega (arith, csum) }
