-- The names of chunks: each is one digest's, and none is that of a snapshot's file or a temporary one.
use Rattle.std.proofs.Common.{◌≡◌, ◌≢◌, ◌<◌, ◌≤◌, ◌+◌, ◌/◌, ◌%◌, ℕ, zero, suc, true, List, [], ◌∷◌, ◌++◌, length, take, drop, refl, sym, ap, subst, ◌∙◌, arith, lit<, length-append, append_assoc}
use Rattle.std.specs.Prelude.{codes, nat_lt, slice_index}
use Rattle.std.specs.List.{All}
use Rattle.std.specs.Str.{IsAscii, IsUtf8, IsCharBoundary}
use Rattle.std.proofs.lemmas.Bool.{ltb-true}
use Rattle.std.proofs.lemmas.List.{length-take-le, get_or-append-add}
use Rattle.std.proofs.Math.Seq.{drop-append-add, drop-append_seam}
use Rattle.std.proofs.lemmas.List.Elements.{All-weaker, All-nil, All-cons, All-tail, All-append, All-push, All-take}
use Rattle.std.proofs.lemmas.List.Sums.{AllPass-from_list_all}
use Rattle.std.proofs.lemmas.Str.{IsUtf8-from_ascii, IsCharBoundary-from_ascii}
use Rattle.std.proofs.lemmas.Str.Ascii.{IsAscii-from_all}
use Rattle.hex.specs.Hex.{IsBytes, encode_lower, encode_with, lower_digits, decode_of}
use Rattle.hex.proofs.HexLemmas.{IsAscii-encode_with, length-encode_with, decode_of-encode_lower, decode_of-same}
use Rattle.file_install.specs.Install.{temporary}
use Rattle.store_types.specs.declared.names.Kind.{Kind}
use Rattle.store_types.specs.declared.names.Kind.TheVariants.{Ct, Host, Vm}
use Rattle.store_types.specs.declared.names.SnapshotKey.{SnapshotKey}
use Rattle.store_types.specs.Times.{time_text}
use Rattle.store_types.specs.Names.{kind_text, group_text, key_text}
use Rattle.store_files.specs.Folder.{IsDigest, chunk_name, file_path}

lower_ascii : IsAscii lower_digits
lower_ascii =
    IsAscii-from_all lower_digits
    (All-weaker (λ b. nat_lt b 128 ≡ true) (λ b. b < 128) (λ b e. ltb-true b 128 e) lower_digits (AllPass-from_list_all (λ b. nat_lt b 128) lower_digits refl))

digits_ascii : (digest : List ℕ) → IsAscii (encode_lower digest)
digits_ascii digest = IsAscii-encode_with lower_digits digest lower_ascii

-- the digits are text, and can be cut behind the first four
pub digits_utf8 : (digits digest : List ℕ) → digits ≡ encode_lower digest → IsUtf8 digits
digits_utf8 digits digest is = rw is (IsUtf8-from_ascii (encode_lower digest) (digits_ascii digest))

pub cut_in_digits : (digits digest : List ℕ) → digits ≡ encode_lower digest → 4 ≤ length digits → IsCharBoundary digits 4
cut_in_digits digits digest is long = IsCharBoundary-from_ascii digits 4 (rw is (digits_ascii digest)) long

-- ---- a name is one digest's

pub bytes_of : (digest : List ℕ) → All (λ b. b < 256) digest → IsBytes digest
bytes_of [] are i = lit< tt
bytes_of (b ∷ bs) are zero = are 0 0 (omega arith)
bytes_of (b ∷ bs) are (suc i) = bytes_of bs (λ k d within. are (suc k) d (omega arith)) i

pub length_digits : (digest : List ℕ) → IsDigest digest → length (encode_lower digest) ≡ 64
length_digits digest is = let len = length-encode_with lower_digits digest in omega (arith, len, is.0)

abbrev folder : List ℕ
folder = codes ".chunks/"

behind : (digits : List ℕ) → length digits ≡ 64 → drop 13 (folder ++ take 4 digits ++ codes "/" ++ digits) ≡ digits
behind digits len =
    let front : List ℕ = take 4 digits ++ 47 ∷ [] in
    let four : length (take 4 digits) ≡ 4 = length-take-le 4 digits (omega (arith, len)) in
    let five : length front ≡ 5 = omega (arith, four, length-append (take 4 digits) (47 ∷ [])) in
    let eight : length folder + 5 ≡ 13 = refl in
    let folder_off : drop 13 (folder ++ (front ++ digits)) ≡ drop 5 (front ++ digits) =
    subst (λ k. drop k (folder ++ (front ++ digits)) ≡ drop 5 (front ++ digits)) eight (drop-append-add folder (front ++ digits) 5) in
    folder_off ∙ subst (λ k. drop k (front ++ digits) ≡ digits) five (drop-append_seam front digits)

-- all digits stand at the end
pub digits_behind : (digest : List ℕ) → IsDigest digest → drop 13 (chunk_name digest) ≡ encode_lower digest
digits_behind digest is = behind (encode_lower digest) (length_digits digest is)

-- equal names have equal digests
pub same_digest : (a b : List ℕ) → IsDigest a → IsDigest b → chunk_name a ≡ chunk_name b → a ≡ b
same_digest a b is_a is_b e =
    let digits : encode_lower a ≡ encode_lower b = sym (digits_behind a is_a) ∙ ap (drop 13) e ∙ digits_behind b is_b in
    decode_of-same (encode_lower a) a b (decode_of-encode_lower a (bytes_of a is_a.1)) (ap decode_of digits ∙ decode_of-encode_lower b (bytes_of b is_b.1))

-- ---- a temporary name is no chunk's

-- digits of either are below `g`, which `t` is not
abbrev pub AreSmall : List ℕ → Type 0
AreSmall = All (λ b. b < 103)

small_at : (bs : List ℕ) → AreSmall bs → (i : ℕ) → slice_index bs i < 103
small_at [] are i = omega arith
small_at (b ∷ bs) are zero = are 0 0 (omega arith)
small_at (b ∷ bs) are (suc i) = small_at bs (All-tail (λ x. x < 103) b bs are) i

digit_small : (i : ℕ) → slice_index lower_digits i < 103
digit_small =
    small_at lower_digits
    (All-weaker (λ b. nat_lt b 103 ≡ true) (λ b. b < 103) (λ b e. ltb-true b 103 e) lower_digits (AllPass-from_list_all (λ b. nat_lt b 103) lower_digits refl))

pub digits_small : (digest : List ℕ) → AreSmall (encode_lower digest)
unfolding encode_with
digits_small [] = All-nil (λ b. b < 103)
digits_small (b ∷ rest) =
    All-cons (λ x. x < 103) (slice_index lower_digits (b / 16)) (slice_index lower_digits (b % 16) ∷ encode_lower rest) (digit_small (b / 16))
    (All-cons (λ x. x < 103) (slice_index lower_digits (b % 16)) (encode_lower rest) (digit_small (b % 16)) (digits_small rest))

-- what stands behind the folder
abbrev in_folder : List ℕ → List ℕ
in_folder digest = take 4 (encode_lower digest) ++ codes "/" ++ encode_lower digest

in_folder_small : (digest : List ℕ) → AreSmall (in_folder digest)
in_folder_small digest =
    All-append (λ b. b < 103) (take 4 (encode_lower digest) ++ codes "/") (encode_lower digest)
    (All-push (λ b. b < 103) (take 4 (encode_lower digest)) 47 (All-take (λ b. b < 103) 4 (encode_lower digest) (digits_small digest)) (omega arith)) (digits_small digest)

pub chunk_not_temporary : (d digest : List ℕ) → chunk_name d ≢ temporary (chunk_name digest)
chunk_not_temporary d digest e =
    let rest : in_folder d ≡ in_folder digest ++ codes ".tmp" = ap (drop 8) e in
    let small : AreSmall (in_folder digest ++ codes ".tmp") = subst AreSmall rest (in_folder_small d) in
    let t = small (length (in_folder digest) + 1) 0 (omega (arith, length-append (in_folder digest) (codes ".tmp"))) in
    let is : slice_index (in_folder digest ++ codes ".tmp") (length (in_folder digest) + 1) ≡ 116 = get_or-append-add (in_folder digest) (codes ".tmp") 1 0 in
    omega (arith, t, is)

-- ---- names that begin with a dot are none of a snapshot's file

from_kind : (key : SnapshotKey) (name : List ℕ) → file_path key name ≡ kind_text key.kind ++ 47 ∷ (key.id ++ 47 ∷ (time_text key.time ++ 47 ∷ name))
unfolding key_text group_text
from_kind key name = simp append_assoc refl

kind_head : (kind : Kind) (rest : List ℕ) → slice_index (kind_text kind ++ rest) 0 ≢ 46
kind_head Ct rest e = omega (arith, e)
kind_head Host rest e = omega (arith, e)
kind_head Vm rest e = omega (arith, e)

dot_apart : (rest : List ℕ) (key : SnapshotKey) (name : List ℕ) → file_path key name ≢ 46 ∷ rest
dot_apart rest key name e = kind_head key.kind _ (ap (λ q. slice_index q 0) (sym (from_kind key name) ∙ e))

pub file_not_chunk : (key : SnapshotKey) (name digest : List ℕ) → file_path key name ≢ chunk_name digest
file_not_chunk key name digest = dot_apart _ key name

pub file_not_staged : (key : SnapshotKey) (name digest : List ℕ) → file_path key name ≢ temporary (chunk_name digest)
file_not_staged key name digest = dot_apart _ key name
