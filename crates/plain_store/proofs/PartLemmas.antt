-- Parts of files.
use Rattle.std.proofs.Common.{◌≡◌, ℕ, ◌-◌, ◌≤◌, arith, take, drop, true, false, Bool, List, length, None, Some, Result, Ok, Err, refl, ap, ◌∙◌}
use Rattle.std.proofs.lemmas.Bool.{le-leb}
use Rattle.std.proofs.lemmas.List.{take_min, take_all, length-take, length-drop}
use Rattle.std.specs.Prelude.{nat_le, min}
use Rattle.store_types.specs.declared.refusal.Refusal.{Refusal}
use Rattle.store_types.specs.declared.refusal.Refusal.TheVariants.{NoFile, BadRange}
use Rattle.store_types.specs.Chain.Refusing.{◌>>=◌, unless, or_else}
use Rattle.store_files.specs.Archive.{File, file_text, file_named}
use Rattle.wire_commands.specs.declared.reply.Reply.{Reply}
use Rattle.wire_commands.specs.declared.reply.Reply.TheVariants.{Part}
use Rattle.store_model.specs.Store.{Store}
use Rattle.store_model.specs.WriterSteps.{part_of}
use Rattle.plain_store.specs.Parts.{part_from, file_part}

-- ---- a file and its part

abbrev pub in_range : File → ℕ → Result (Unit {0}) Refusal
in_range f offset = unless (BadRange (length (file_text f.content))) (nat_le offset (length (file_text f.content)))

abbrev pub its_part : File → ℕ → Reply
its_part f offset = part_of (file_text f.content) offset

pub part_in_row : (o : Result File Refusal) (offset : ℕ) (go : File × Reply → Result (Store × Reply) Refusal)
    → (o >>= λ f. in_range f offset >>= λ _. go (f, its_part f offset))
    ≡ ((o >>= λ f. (in_range f offset >>= λ _. (let y : Result Reply Refusal = Ok (its_part f offset) in y)) >>= λ part. (let z : Result (File × Reply) Refusal = Ok (f, part) in z)) >>= go)
part_in_row (Err e) offset go = refl
part_in_row (Ok f) offset go = by_test (nat_le offset (length (file_text f.content)))
  where
    by_test : (b : Bool) → (unless (BadRange (length (file_text f.content))) b >>= λ _. go (f, its_part f offset))
        ≡ (((unless (BadRange (length (file_text f.content))) b >>= λ _. (let y : Result Reply Refusal = Ok (its_part f offset) in y)) >>= λ part. (let z : Result (File × Reply) Refusal = Ok (f, part) in z)) >>= go)
    by_test true = refl
    by_test false = refl

module _ (files : List File) (name : List ℕ) (offset : ℕ) where
  pub part_none : file_named name files ≡ None → file_part files name offset ≡ Err NoFile
  part_none h = rw h refl

  module _ (f : File) (there : file_named name files ≡ Some f) where
    pub part_refused : (r : Refusal) → part_from (file_text f.content) offset ≡ Err r → file_part files name offset ≡ Err r
    part_refused r h = ap (λ o. or_else NoFile o >>= λ g. part_from (file_text g.content) offset >>= λ part. Ok (g, part)) there ∙ ap (λ t. t >>= λ part. Ok (f, part)) h

    pub part_found : (reply : Reply) → part_from (file_text f.content) offset ≡ Ok reply → file_part files name offset ≡ Ok (f, reply)
    part_found reply h = ap (λ o. or_else NoFile o >>= λ g. part_from (file_text g.content) offset >>= λ part. Ok (g, part)) there ∙ ap (λ t. t >>= λ part. Ok (f, part)) h

-- ---- a part of a text

-- what the code takes: of what is left, as much as a reply holds
taken : (text : List ℕ) (offset n : ℕ) → n ≡ min (length (take (length text - offset) (drop offset text))) 4_194_304
    → take n (take (length text - offset) (drop offset text)) ≡ take 4_194_304 (drop offset text)
taken text offset n e =
    let rest = drop offset text in
    let all = take_all (length text - offset) rest (omega (arith, length-drop offset text)) in
    ap (λ m. take m (take (length text - offset) rest)) (e ∙ ap (λ (r : List ℕ). min (length r) 4_194_304) all)
    ∙ ap (take (min (length rest) 4_194_304)) all
    ∙ ap (λ m. take m rest) (let same : min (length rest) 4_194_304 ≡ min 4_194_304 (length rest) = omega arith in same)
    ∙ take_min 4_194_304 rest

pub part_within : (text bytes : List ℕ) (offset size n : ℕ) → size ≡ length text → offset ≤ size
    → n ≡ min (length (take (length text - offset) (drop offset text))) 4_194_304
    → bytes ≡ take n (take (length text - offset) (drop offset text)) → part_from text offset ≡ Ok (Part size bytes)
part_within text bytes offset size n same within e is =
    let inside = le-leb offset (length text) (omega arith) in
    rw (inside, same, is, taken text offset n e) refl

pub part_short : (text bytes : List ℕ) (offset n : ℕ) → n ≡ min (length (take (length text - offset) (drop offset text))) 4_194_304
    → bytes ≡ take n (take (length text - offset) (drop offset text)) → length bytes ≤ 4_194_304
part_short text bytes offset n e is =
    omega (arith, ap length (is ∙ taken text offset n e), length-take 4_194_304 (drop offset text))
