-- The steps of a dynamic index, page by page.
use Rattle.std.proofs.Common.{◌≡◌, ℕ, ◌+◌, ◌-◌, ◌*◌, ◌<◌, ◌≤◌, Bool, true, false, ◌&&◌, cond, inr, List, [], ◌∷◌, ◌++◌, length, take, drop, get_or, nat_lt, nat_le, Option, Some, None, Err, refl, sym, ap, ap₂, subst, ◌∙◌, add-one, arith}
use Rattle.std.specs.Prelude.{is_some}
use Rattle.std.specs.List.Sorted.{IsNonDecreasingBy}
use Rattle.std.proofs.lemmas.Bool.{and_parts, ltb-true}
use Rattle.std.proofs.lemmas.List.{get_or_push, length-append}
use Rattle.std.proofs.lemmas.List.Sorted.{IsNonDecreasingBy-push, IsNonDecreasingBy-short}
use Rattle.std.proofs.Math.Seq.{take-add}
use Rattle.store_files.specs.DynamicIndex.{Ended, steps_fit}
use Rattle.dynamic_index.specs.Pieces.{last_end}
use Rattle.index_pages.specs.declared.fault.PageFault.{PageFault}
use Rattle.index_pages.specs.declared.fault.PageFault.TheVariants.{Missing, BadIndex, Changed, Failed, NoMemory}
use Rattle.index_pages.specs.Opening.{Begins, ClosesAt, HasPages, page_of}
use Rattle.index_pages.specs.Paged.{page_count}
use Rattle.index_pages.proofs.Cutting.{all_read, none_read, pages_end}
use Rattle.paged_indexes.specs.declared.reading.Reading.{Reading}
use Rattle.paged_indexes.specs.declared.reading.DynamicBody.{DynamicBody}
use Rattle.paged_indexes.specs.Reading.{BodyIs, EndsRise, IsDynamicBody, Takes, TakesThe}
use Rattle.paged_indexes.specs.Steps.{entries_of, is_step, page_ends, stepped}
use Rattle.paged_indexes.proofs.Entries.{entries_none, entries_paged, page_entries_are}

none_if : (b : Bool) (o p : Option ℕ) → cond b o None ≡ None → (o ≡ None → p ≡ None) → cond b p None ≡ None
none_if true o p e f = f e
none_if false o p e f = refl

some_if : (b : Bool) (o p q : Option ℕ) (end : ℕ) → cond b o None ≡ Some end → (o ≡ Some end → p ≡ q) → cond b p None ≡ q
some_if true o p q end e f = f e
some_if false o p q end e f = cc

fits_if : (b c : Bool) (o : Option ℕ) → c ≡ is_some o → (b && c) ≡ is_some (cond b o None)
fits_if true c o e = e
fits_if false c o e = refl

pub stepped_none : (start : ℕ) (xs ys : List Ended) → stepped start xs ≡ None → stepped start (xs ++ ys) ≡ None
stepped_none start [] ys e = cc
stepped_none start (x ∷ xs) ys e = none_if (is_step start x.end) (stepped x.end xs) (stepped x.end (xs ++ ys)) e (stepped_none x.end xs ys)

some_is : (a b : ℕ) → Some a ≡ Some b → a ≡ b
some_is a b e = cc

pub stepped_some : (start end : ℕ) (xs ys : List Ended) → stepped start xs ≡ Some end → stepped start (xs ++ ys) ≡ stepped end ys
stepped_some start end [] ys e = ap (λ n. stepped n ys) (some_is start end e)
stepped_some start end (x ∷ xs) ys e =
    some_if (is_step start x.end) (stepped x.end xs) (stepped x.end (xs ++ ys)) (stepped end ys) end e (stepped_some x.end end xs ys)

pub stepped_fits : (start : ℕ) (xs : List Ended) → steps_fit start xs ≡ is_some (stepped start xs)
stepped_fits start [] = refl
stepped_fits start (x ∷ xs) = fits_if (is_step start x.end) (steps_fit x.end xs) (stepped x.end xs) (stepped_fits x.end xs)

-- one entry more
pub stepped_entry : (start : ℕ) (x : Ended) (xs : List Ended) → is_step start x.end ≡ true → stepped start (x ∷ xs) ≡ stepped x.end xs
stepped_entry start x xs is = ap (λ b. cond b (stepped x.end xs) None) is

pub stepped_no_entry : (start : ℕ) (x : Ended) (xs : List Ended) → is_step start x.end ≡ false → stepped start (x ∷ xs) ≡ None
stepped_no_entry start x xs is = ap (λ b. cond b (stepped x.end xs) None) is

-- ---- where the last piece ends

last_if : (b : Bool) (o : Option ℕ) (n end : ℕ) → cond b o None ≡ Some end → (o ≡ Some end → end ≡ n) → end ≡ n
last_if true o n end e f = f e
last_if false o n end e f = cc

pub stepped_last : (start end : ℕ) (xs : List Ended) → stepped start xs ≡ Some end → end ≡ last_end start xs
stepped_last start end [] e = sym (some_is start end e)
stepped_last start end (x ∷ xs) e = last_if (is_step start x.end) (stepped x.end xs) (last_end x.end xs) end e (stepped_last x.end end xs)

rises_if : (b : Bool) (o : Option ℕ) (start next end : ℕ) → cond b o None ≡ Some end → (b ≡ true → start < next) → (o ≡ Some end → next ≤ end) → start ≤ end
rises_if true o start next end e up more = omega (arith, up refl, more e)
rises_if false o start next end e up more = cc

step_rises : (start end : ℕ) → is_step start end ≡ true → start < end
step_rises start end is = ltb-true start end (and_parts (nat_lt start end) (nat_le end (start + 16_777_216)) is).0

-- it does not end before the first one begins
pub stepped_rises : (start end : ℕ) (xs : List Ended) → stepped start xs ≡ Some end → start ≤ end
stepped_rises start end [] e = let same = some_is start end e in omega (arith, same)
stepped_rises start end (x ∷ xs) e =
    rises_if (is_step start x.end) (stepped x.end xs) start x.end end e (step_rises start x.end) (stepped_rises x.end end xs)

pub last_end-append : (start : ℕ) (xs ys : List Ended) → last_end start (xs ++ ys) ≡ last_end (last_end start xs) ys
last_end-append start [] ys = refl
last_end-append start (x ∷ xs) ys = last_end-append x.end xs ys

-- where the pieces of one page more end
last_more : (es : List Ended) (i start end : ℕ) → start ≡ last_end 0 (take (i * 1024) es) → end ≡ last_end start (take 1024 (drop (i * 1024) es)) → end ≡ last_end 0 (take ((i + 1) * 1024) es)
last_more es i start end from to =
    let at : i * 1024 + 1024 ≡ (i + 1) * 1024 = omega arith in
    to ∙ ap (λ n. last_end n (take 1024 (drop (i * 1024) es))) from
    ∙ sym (last_end-append 0 (take (i * 1024) es) (take 1024 (drop (i * 1024) es)))
    ∙ ap (last_end 0) (sym (take-add (i * 1024) 1024 es) ∙ ap (λ n. take n es) at)

ends_more : (es : List Ended) (i end : ℕ) (old new : List ℕ) → old ≡ page_ends i es → new ≡ old ++ end ∷ [] → end ≡ last_end 0 (take ((i + 1) * 1024) es) → new ≡ page_ends (i + 1) es
unfolding page_ends
ends_more es i end old new before push is =
    push ∙ ap₂ (λ xs n. xs ++ n ∷ []) before (is ∙ ap (λ n. last_end 0 (take (n * 1024) es)) (add-one i)) ∙ ap (λ n. page_ends n es) (sym (add-one i))

-- ---- the loop over the pages

pub record Progress (body : List ℕ) (i : ℕ) (r : Reading) : Type 0 where
  pub read : HasPages 40 i body r.opening
  pub steps : stepped r.end (entries_of (drop (i * 40_960) body)) ≡ stepped 0 (entries_of body)
  pub ends : r.ends.items ≡ page_ends i (entries_of body)
  pub end_is : r.end ≡ last_end 0 (take (i * 1024) (entries_of body))

pub begins : (body : List ℕ) (r : Reading) → Begins r.opening → r.ends.items ≡ [] → r.end ≡ 0 → Progress body 0 r
unfolding page_ends
begins body r b e start = record {
  read = none_read 40 body r.opening b;
  steps = ap (λ n. stepped n (entries_of body)) start;
  ends = e;
  end_is = start;
}

pub progress_more : (body : List ℕ) (count i : ℕ) (old new : Reading) (bytes : List ℕ) → length body ≡ count * 40 → i < page_count count
    → Progress body i old → Takes count i body old new bytes → Progress body (i + 1) new
progress_more body count i old new bytes len below is takes =
    let page = page_of 40 count i body in
    let last = last_more (entries_of body) i old.end new.end is.end_is
    (stepped_last old.end new.end (entries_of page) takes.steps ∙ ap (last_end old.end) (page_entries_are count i body len below)) in
    record {
      read = takes.noted is.read;
      steps = sym (ap (stepped old.end) (entries_paged count i body len below)
          ∙ stepped_some old.end new.end (entries_of page) (entries_of (drop ((i + 1) * 40_960) body)) takes.steps) ∙ is.steps;
      ends = ends_more (entries_of body) i new.end old.ends.items new.ends.items is.ends takes.ends last;
      end_is = last;
    }

pub progress_fails : (body : List ℕ) (count i : ℕ) (old : Reading) → length body ≡ count * 40 → i < page_count count
    → Progress body i old → stepped old.end (entries_of (page_of 40 count i body)) ≡ None → steps_fit 0 (entries_of body) ≡ false
progress_fails body count i old len below is none =
    stepped_fits 0 (entries_of body)
    ∙ ap (λ o. is_some o) (sym is.steps ∙ ap (stepped old.end) (entries_paged count i body len below)
    ∙ stepped_none old.end (entries_of (page_of 40 count i body)) (entries_of (drop ((i + 1) * 40_960) body)) none)

pub progress_ends : (body : List ℕ) (count i : ℕ) (r : Reading) (b : DynamicBody) → length body ≡ count * 40 → i ≡ page_count count
    → Progress body i r → ClosesAt r.opening b.body → b.ends.items ≡ r.ends.items → IsDynamicBody body count b
progress_ends body count i r b len past is closes same =
    let all = all_read 40 count i body (inr refl) len (omega (arith, past)) in
    let none : entries_of (drop (i * 40_960) body) ≡ [] = ap entries_of all.1 ∙ entries_none [] (omega arith) in
    record {
      read = pages_end 40 count i body r.opening b.body (inr refl) len past is.read closes;
      ends = same ∙ is.ends ∙ ap (λ n. page_ends n (entries_of body)) past;
      steps = stepped_fits 0 (entries_of body) ∙ ap (λ o. is_some o) (sym is.steps ∙ ap (stepped r.end) none);
    }

-- ---- what a failed page tells of the body

pub body_stopped : (body : List ℕ) (count i : ℕ) (old new : Reading) (page : List ℕ) (fault : PageFault) → TakesThe count i body old new page (Err fault)
    → (stepped old.end (entries_of (page_of 40 count i body)) ≡ None → steps_fit 0 (entries_of body) ≡ false) → BodyIs body count (Err fault)
body_stopped body count i old new page Missing h k = record { cause = h.cause; steps = k h.steps }
body_stopped body count i old new page (BadIndex cause) h k = record { cause = h.cause; steps = k h.steps }
body_stopped body count i old new page (Changed j) h k = record { cause = h.cause; steps = k h.steps }
body_stopped body count i old new page Failed h k = tt
body_stopped body count i old new page NoMemory h k = tt

-- ---- the ends rise

pub none_rise : (r : Reading) → r.ends.items ≡ [] → EndsRise r
none_rise r e =
    let none : length r.ends.items ≡ 0 = ap length e in
    record {
      rises = IsNonDecreasingBy-short (λ (n : ℕ). n) r.ends.items (omega (arith, none));
      last = λ d some. absurd (omega (arith, none, some));
    }

pub rise_more : (old new : Reading) → old.end ≤ new.end → new.ends.items ≡ old.ends.items ++ new.end ∷ [] → EndsRise old → EndsRise new
rise_more old new up push is =
    let size : length new.ends.items ≡ length old.ends.items + 1 = ap length push ∙ length-append old.ends.items (new.end ∷ []) in
    record {
      rises = subst (IsNonDecreasingBy (λ (n : ℕ). n)) (sym push)
          (IsNonDecreasingBy-push (λ (n : ℕ). n) old.ends.items new.end is.rises (λ d some. omega (arith, is.last d some, up)));
      last = λ d some.
          let at : length old.ends.items ≡ length new.ends.items - 1 = omega (arith, size) in
          let last = ap (λ xs. get_or xs (length new.ends.items - 1) d) push ∙ get_or_push old.ends.items new.end d (length new.ends.items - 1) at in
          omega (arith, last);
    }
