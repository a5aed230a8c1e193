-- A part that was read is the part of the text.
use Rattle.std.proofs.Common.{◌≡◌, ◌≤◌, ◌-◌, ◌++◌, ℕ, min, List, [], length, take, drop, nat_le, true, Option, None, Some, MatchOption, Ok, option_map, refl, sym, ap, subst, ◌∙◌, arith}
use Rattle.std.proofs.Math.ListN.{drop_of_length-le}
use Rattle.std.proofs.Math.Seq.{take-append_seam}
use Rattle.std.proofs.lemmas.Bool.{le-leb}
use Rattle.std.proofs.lemmas.List.{append-nil, length-drop, take_min}
use Rattle.std.specs.FinMap.{get}
use Rattle.disk_trait.specs.Files.{Files}
use Rattle.store_types.specs.declared.refusal.Refusal.TheVariants.{BadRange, Unreadable}
use Rattle.store_types.specs.Chain.Refusing.{◌>>=◌, or_else, unless}
use Rattle.wire_commands.specs.declared.reply.Reply.TheVariants.{Part}
use Rattle.store_model.specs.WriterSteps.{part_limit, part_of}
use Rattle.snapshot_files.specs.Parts.{part_at, part_from}

-- what is said of what is there
pub at_some : {A : Type 0} (o : Option A) (x : A) (P : Type 0) (Q : A → Type 0) → o ≡ Some x → MatchOption o P Q → Q x
at_some o x P Q e h = subst (λ q. MatchOption q P Q) e h

-- by the size
pub none_of : (o : Option (List ℕ)) → None ≡ option_map (λ t. length t) o → o ≡ None
none_of None e = refl
none_of (Some t) e = cc

pub some_of : (o : Option (List ℕ)) (n : ℕ) → Some n ≡ option_map (λ t. length t) o → (t : List ℕ) × (o ≡ Some t) × (n ≡ length t)
some_of None n e = cc
some_of (Some t) n e = (t, refl, cc)

-- what was written over the whole of it
pub seam : (xs ys : List ℕ) (n : ℕ) → length xs ≡ n → take n (xs ++ ys) ≡ xs
seam xs ys n e = subst (λ k. take k (xs ++ ys) ≡ xs) e (take-append_seam xs ys)

-- what is left from an offset, and no more than a part has
pub rest_is : (text : List ℕ) (offset : ℕ) → take (min part_limit (length text - offset)) (drop offset text) ≡ take part_limit (drop offset text)
rest_is text offset = ap (λ n. take (min part_limit n) (drop offset text)) (sym (length-drop offset text)) ∙ take_min part_limit (drop offset text)

bytes_are : (text buffer : List ℕ) (offset wanted : ℕ) → wanted ≡ min part_limit (length text - offset) → length buffer ≡ wanted
    → take (length buffer) (drop offset text) ++ drop (length text - offset) buffer ≡ take part_limit (drop offset text)
bytes_are text buffer offset wanted w l =
    let rest : drop (length text - offset) buffer ≡ [] = drop_of_length-le buffer (omega (arith, w, l)) in
    ap (λ r. take (length buffer) (drop offset text) ++ r) rest ∙ append-nil (take (length buffer) (drop offset text))
    ∙ ap (λ n. take n (drop offset text)) (l ∙ w) ∙ rest_is text offset

pub part_is : (text buffer bytes : List ℕ) (offset total wanted : ℕ) → total ≡ length text → offset ≤ total → wanted ≡ min part_limit (total - offset) → length buffer ≡ wanted
    → bytes ≡ take (length buffer) (drop offset text) ++ drop (length text - offset) buffer → Ok (Part total bytes) ≡ part_from text offset
part_is text buffer bytes offset total wanted t le w l b =
    let inside : nat_le offset (length text) ≡ true = le-leb offset (length text) (omega (arith, t, le)) in
    let are = b ∙ bytes_are text buffer offset wanted (w ∙ ap (λ n. min part_limit (n - offset)) t) l in
    ap (λ n. Ok (Part n bytes)) t ∙ ap (λ x. Ok (Part (length text) x)) are
    ∙ ap (λ b. unless (BadRange (length text)) b >>= λ _. Ok (part_of text offset)) (sym inside)

-- of the file that stands there
pub part_there : (content : Files) (path : List ℕ) (offset : ℕ) (text : List ℕ) → get content path ≡ Some text → part_at content path offset ≡ part_from text offset
part_there content path offset text is = ap (λ o. or_else (Unreadable path) o >>= λ t. part_from t offset) is
