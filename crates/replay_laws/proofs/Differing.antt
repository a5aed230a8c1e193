-- Replies with a collector's reports, and the same with zeros in place of the numbers: they differ only where bytes are free.
use Rattle.std.proofs.Common.{◌≡◌, ℕ, suc, ◌+◌, ◌<◌, ◌&&◌, ◌||◌, ◌==◌, Bool, true, false, List, [], ◌∷◌, ◌++◌, map, length, Option, Some, None, ◌⊎◌, inl, inr, refl, sym, ap, subst, ◌∙◌, arith, append_assoc, length-append, nat_le, nat_lt, if◌then◌else◌, slice_index_or}
use Rattle.std.specs.Int.{w32, to_le_bytes}
use Rattle.std.specs.List.{cons_option}
use Rattle.std.specs.Option.{option_or}
use Rattle.std.proofs.lemmas.Bool.{eq-eqb, le-leb, lt-ltb}
use Rattle.wire_frames.specs.Frames.{frame}
use Rattle.wire_commands.specs.declared.reply.Reply.{Reply}
use Rattle.wire_commands.specs.declared.reply.Reply.TheVariants as replies
use Rattle.wire_commands.specs.Fields.{u64}
use Rattle.wire_commands.specs.ReplyText.{reply_text}
use Rattle.store_history.specs.LaneRun.{text, blank, plain_text}
use Rattle.store_history.proofs.Plainly.{IsPlainReply}
use Rattle.plain_store.specs.declared.frees.Free.{Free}
use Rattle.replay.specs.Compare.{covers, differs_from, first_unequal, is_free, unequal}

-- ---- pieces of two texts

module _ (frees : List Free) (lane : ℕ) where
  -- the same bytes
  pub same_on : (bytes replayed kept : List ℕ) (place : ℕ) → differs_from frees lane place (bytes ++ replayed) (bytes ++ kept) ≡ differs_from frees lane (place + length bytes) replayed kept
  unfolding differs_from
  same_on [] replayed kept place = ap (λ n. differs_from frees lane n replayed kept) (none place)
    where
      none : (n : ℕ) → n ≡ n + 0
      none n = omega arith
  same_on (b ∷ bytes) replayed kept place =
      ap (λ t. if t || is_free frees lane place then differs_from frees lane (place + 1) (bytes ++ replayed) (bytes ++ kept) else Some (unequal lane place (Some b) (Some b))) (eq-eqb b b refl)
      ∙ same_on bytes replayed kept (place + 1)
      ∙ ap (λ n. differs_from frees lane n replayed kept) (one place (length bytes))
    where
      one : (n m : ℕ) → n + 1 + m ≡ n + suc m
      one n m = omega arith

  -- as many other ones, each free
  pub free_on : (old new replayed kept : List ℕ) (place : ℕ) → length new ≡ length old → ((i : ℕ) → i < length old → is_free frees lane (place + i) ≡ true)
      → differs_from frees lane place (old ++ replayed) (new ++ kept) ≡ differs_from frees lane (place + length old) replayed kept
  unfolding differs_from
  free_on [] [] replayed kept place same free = ap (λ n. differs_from frees lane n replayed kept) (none place)
    where
      none : (n : ℕ) → n ≡ n + 0
      none n = omega arith
  free_on [] (b ∷ new) replayed kept place same free = absurd (omega (arith, same))
  free_on (a ∷ old) [] replayed kept place same free = absurd (omega (arith, same))
  free_on (a ∷ old) (b ∷ new) replayed kept place same free =
      let here : is_free frees lane place ≡ true = subst (λ n. is_free frees lane n ≡ true) (none place) (free 0 (omega arith)) in
      either (a == b) (is_free frees lane place) here
      ∙ free_on old new replayed kept (place + 1) (omega (arith, same)) (λ i lt. subst (λ n. is_free frees lane n ≡ true) (next place i) (free (suc i) (omega (arith, lt))))
      ∙ ap (λ n. differs_from frees lane n replayed kept) (one place (length old))
    where
      none : (n : ℕ) → n + 0 ≡ n
      none n = omega arith

      next : (n i : ℕ) → n + suc i ≡ n + 1 + i
      next n i = omega arith

      one : (n m : ℕ) → n + 1 + m ≡ n + suc m
      one n m = omega arith

      either : (t f : Bool) → f ≡ true
          → (if t || f then differs_from frees lane (place + 1) (old ++ replayed) (new ++ kept) else Some (unequal lane place (Some a) (Some b)))
          ≡ differs_from frees lane (place + 1) (old ++ replayed) (new ++ kept)
      either true f is = refl
      either false true is = refl
      either false false is = cc

-- ---- replies

-- it has no numbers of a report, or the bytes from these on are free
abbrev pub IsCovered : List Free → ℕ → ℕ → Reply → Type 0
IsCovered frees lane place r = IsPlainReply r ⊎ ((i : ℕ) → i < 40 → is_free frees lane (place + 5 + i) ≡ true)

abbrev pub told_text : Reply → List ℕ
told_text r = frame (reply_text r)

-- so is each of some replies from a place on
abbrev pub AreCovered : List Free → ℕ → ℕ → List Reply → Type 0
AreCovered frees lane place [] = Unit {0}
AreCovered frees lane place (r ∷ rs) = IsCovered frees lane place r × AreCovered frees lane (place + length (told_text r)) rs

-- the five numbers
numbers : ℕ → ℕ → ℕ → ℕ → ℕ → List ℕ
numbers start cutoff used pending removed = u64 start ++ u64 cutoff ++ u64 used ++ u64 pending ++ u64 removed

length-numbers : (start cutoff used pending removed : ℕ) → length (numbers start cutoff used pending removed) ≡ 40
unfolding numbers
length-numbers start cutoff used pending removed = refl

-- what stands before them
head_of_report : List ℕ
head_of_report = to_le_bytes w32 41 ++ 0 ∷ []

length-head : length head_of_report ≡ 5
unfolding head_of_report
length-head = refl

report_is : (start cutoff used pending removed : ℕ) → told_text (replies.Collected start cutoff used pending removed) ≡ head_of_report ++ numbers start cutoff used pending removed
unfolding reply_text numbers head_of_report
report_is start cutoff used pending removed = refl

module _ (frees : List Free) (lane : ℕ) where
  -- a report, and what is behind it
  at_report : (start cutoff used pending removed : ℕ) (replayed kept : List ℕ) (place : ℕ)
      → ((i : ℕ) → i < 40 → is_free frees lane (place + 5 + i) ≡ true)
      → differs_from frees lane place (told_text (replies.Collected 0 0 0 0 0) ++ replayed) (told_text (replies.Collected start cutoff used pending removed) ++ kept)
      ≡ differs_from frees lane (place + length (told_text (replies.Collected start cutoff used pending removed))) replayed kept
  at_report start cutoff used pending removed replayed kept place free =
      let new = numbers start cutoff used pending removed in
      let old = numbers 0 0 0 0 0 in
      let size_old : length old ≡ 40 = length-numbers 0 0 0 0 0 in
      let size_new : length new ≡ 40 = length-numbers start cutoff used pending removed in
      ap (λ xs. differs_from frees lane place (xs ++ replayed) (told_text (replies.Collected start cutoff used pending removed) ++ kept)) (report_is 0 0 0 0 0)
      ∙ ap (λ xs. differs_from frees lane place ((head_of_report ++ old) ++ replayed) (xs ++ kept)) (report_is start cutoff used pending removed)
      ∙ ap (λ xs. differs_from frees lane place xs ((head_of_report ++ new) ++ kept)) (append_assoc head_of_report old replayed)
      ∙ ap (λ xs. differs_from frees lane place (head_of_report ++ (old ++ replayed)) xs) (append_assoc head_of_report new kept)
      ∙ same_on frees lane head_of_report (old ++ replayed) (new ++ kept) place
      ∙ free_on frees lane old new replayed kept (place + length head_of_report) (size_new ∙ sym size_old)
      (λ i lt. subst (λ n. is_free frees lane (place + n + i) ≡ true) (sym length-head) (free i (omega (arith, lt, size_old))))
      ∙ ap (λ n. differs_from frees lane n replayed kept) (ends place (length head_of_report) (length old) (length new) size_old size_new (length-append head_of_report new))
      ∙ ap (λ xs. differs_from frees lane (place + length xs) replayed kept) (sym (report_is start cutoff used pending removed))
    where
      ends : (place head old new : ℕ) → old ≡ 40 → new ≡ 40 → length (head_of_report ++ numbers start cutoff used pending removed) ≡ head + new
          → place + head + old ≡ place + length (head_of_report ++ numbers start cutoff used pending removed)
      ends place head old new is also whole = omega (arith, is, also, whole)

  one_told : (r : Reply) (replayed kept : List ℕ) (place : ℕ) → IsCovered frees lane place r
      → differs_from frees lane place (told_text (blank r) ++ replayed) (told_text r ++ kept) ≡ differs_from frees lane (place + length (told_text r)) replayed kept
  one_told r replayed kept place (inl plainly) =
      ap (λ x. differs_from frees lane place (told_text x ++ replayed) (told_text r ++ kept)) plainly ∙ same_on frees lane (told_text r) replayed kept place
  one_told r replayed kept place (inr free) = by_reply r
    where
      by_reply : (x : Reply) → differs_from frees lane place (told_text (blank x) ++ replayed) (told_text x ++ kept) ≡ differs_from frees lane (place + length (told_text x)) replayed kept
      by_reply (replies.Collected start cutoff used pending removed) = at_report start cutoff used pending removed replayed kept place free
      by_reply x = same_on frees lane (told_text x) replayed kept place

  pub covered : (told : List Reply) (place : ℕ) → AreCovered frees lane place told → differs_from frees lane place (plain_text told) (text told) ≡ None
  unfolding text plain_text differs_from
  covered [] place are = refl
  covered (r ∷ rs) place are = one_told r (plain_text rs) (text rs) place are.0 ∙ covered rs (place + length (told_text r)) are.1

-- where each of some lanes has what it told covered, none differs
pub none_unequal : (frees : List Free) (told : List (List Reply)) (all : List (List ℕ)) (lane : ℕ)
    → ((j : ℕ) → j < length told → slice_index_or all (lane + j) [] ≡ plain_text (slice_index_or told j []))
    → ((j : ℕ) → j < length told → AreCovered frees (lane + j) 0 (slice_index_or told j []))
    → first_unequal frees all lane (map text told) ≡ None
unfolding first_unequal
none_unequal frees [] all lane are each = refl
none_unequal frees (t ∷ ts) all lane are each =
    let at : slice_index_or all lane [] ≡ plain_text t = subst (λ n. slice_index_or all n [] ≡ plain_text t) (none lane) (are 0 (omega arith)) in
    let here : AreCovered frees lane 0 t = subst (λ n. AreCovered frees n 0 t) (none lane) (each 0 (omega arith)) in
    ap (λ xs. option_or (differs_from frees lane 0 xs (text t)) (first_unequal frees all (lane + 1) (map text ts))) at
    ∙ ap (λ o. option_or o (first_unequal frees all (lane + 1) (map text ts))) (covered frees lane t 0 here)
    ∙ none_unequal frees ts all (lane + 1)
    (λ j lt. subst (λ n. slice_index_or all n [] ≡ plain_text (slice_index_or ts j [])) (next lane j) (are (suc j) (omega (arith, lt))))
    (λ j lt. subst (λ n. AreCovered frees n 0 (slice_index_or ts j [])) (next lane j) (each (suc j) (omega (arith, lt))))
  where
    none : (n : ℕ) → n + 0 ≡ n
    none n = omega arith

    next : (n j : ℕ) → n + suc j ≡ n + 1 + j
    next n j = omega arith

-- ---- the frees that are noted

-- those that follow leave what is free
pub free_more : (f : Option Free) (frees : List Free) (lane place : ℕ) → is_free frees lane place ≡ true → is_free (cons_option f frees) lane place ≡ true
free_more None frees lane place is = is
free_more (Some x) frees lane place is = or_true (covers lane place x) (is_free frees lane place) is
  where
    or_true : (a b : Bool) → b ≡ true → (a || b) ≡ true
    or_true true b is = refl
    or_true false b is = is

pub covered_by_more : (f : Option Free) (frees : List Free) (lane : ℕ) (r : Reply) (place : ℕ) → IsCovered frees lane place r → IsCovered (cons_option f frees) lane place r
covered_by_more f frees lane r place (inl plainly) = inl plainly
covered_by_more f frees lane r place (inr free) = inr (λ i lt. free_more f frees lane (place + 5 + i) (free i lt))

pub all_covered_more : (f : Option Free) (frees : List Free) (lane : ℕ) (told : List Reply) (place : ℕ) → AreCovered frees lane place told → AreCovered (cons_option f frees) lane place told
all_covered_more f frees lane [] place are = tt
all_covered_more f frees lane (r ∷ rs) place are =
    (covered_by_more f frees lane r place are.0, all_covered_more f frees lane rs (place + length (told_text r)) are.1)

pub free_here : (frees : List Free) (lane place i : ℕ) → i < 40 → is_free (record { lane = lane; place = place + 5 } ∷ frees) lane (place + 5 + i) ≡ true
free_here frees lane place i lt = ap (λ b. b || is_free frees lane (place + 5 + i)) (both (lane == lane) (nat_le (place + 5) (place + 5 + i)) (nat_lt (place + 5 + i) (place + 5 + 40)) (eq-eqb lane lane refl) (le-leb (place + 5) (place + 5 + i) (omega arith)) (lt-ltb (place + 5 + i) (place + 5 + 40) (omega (arith, lt))))
  where
    both : (a b c : Bool) → a ≡ true → b ≡ true → c ≡ true → (a && b && c) ≡ true
    both true true true x y z = refl
    both true true false x y z = cc
    both true false c x y z = cc
    both false b c x y z = cc
