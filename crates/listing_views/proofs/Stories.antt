-- Steps that keep the one history.
use Rattle.std.proofs.Common.{◌≡◌, ℕ, ◌+◌, ◌≢◌, List, [], ◌∷◌, ◌++◌, length, set, refl, sym, ap, subst, ⊎_elim, ◌∙◌, append_assoc, append-nil, arith}
use Rattle.std.proofs.lemmas.List.{length-append}
use mathlib.Core.Option.{some}
use mathlib.Core.List.{IsPrefix}
use lib.ListN.{get_elem?}
use Rattle.left_right.specs.Register.{Admits, TurnsAt}
use Rattle.atomic_table.proofs.Lists.{at_set, at_snoc}
use Rattle.store_history.specs.declared.act.Event.{Event}
use Rattle.listing_views.specs.declared.listed.Listed.{Listed}
use Rattle.listing_views.specs.declared.listing.Listing.{Listing}
use Rattle.listing_views.specs.Story.{Kept, Sees}
use Rattle.listing_views.specs.Listings.{rows}

pub prefix_refl : (h : List Event) → IsPrefix h h
prefix_refl h = ([], append-nil h)

pub prefix_nil : (h : List Event) → IsPrefix [] h
prefix_nil h = (h, refl)

pub prefix_trans : (a b c : List Event) → IsPrefix a b → IsPrefix b c → IsPrefix a c
prefix_trans a b c p q = (p.0 ++ q.0, sym (append_assoc a p.0 q.0) ∙ ap (λ xs. xs ++ q.0) p.1 ∙ q.1)

empty : (xs : List Event) → length xs ≡ 0 → xs ≡ []
empty [] e = refl
empty (x ∷ xs) e = absurd (omega arith)

-- a beginning of the same length is the whole
pub prefix_whole : (a b : List Event) → IsPrefix a b → length a ≡ length b → a ≡ b
prefix_whole a b p e =
    let lengths : length b ≡ length a + length p.0 = sym (ap length p.1) ∙ length-append a p.0 in
    let none : length p.0 ≡ 0 = omega arith in
    sym (append-nil a) ∙ sym (ap (λ r. a ++ r) (empty p.0 none)) ∙ p.1

abbrev EachBegins : List Event → List (List Event) → Type 0
EachBegins now views = (j : ℕ) (v : List Event) → get_elem? views j ≡ some v → IsPrefix v now

begins_set : (now more : List Event) (views : List (List Event)) (seat : ℕ) (w : List Event) → EachBegins now views → IsPrefix now more → IsPrefix w more → EachBegins more (set views seat w)
begins_set now more views seat w each longer is j u at =
    ⊎_elim (λ (t : (j ≡ seat) × (w ≡ u)). subst (λ (z : List Event). IsPrefix z more) t.1 is)
    (λ (t : (j ≢ seat) × (get_elem? views j ≡ some u)). prefix_trans u now more (each j u t.1) longer)
    (at_set views seat j w u at)

begins_more : (now : List Event) (views : List (List Event)) (w : List Event) → EachBegins now views → IsPrefix w now → EachBegins now (views ++ w ∷ [])
begins_more now views w each is j u at =
    ⊎_elim (λ (e : get_elem? views j ≡ some u). each j u e)
    (λ (same : w ≡ u). subst (λ (z : List Event). IsPrefix z now) same is)
    (at_snoc views w u j at)

module _ (is : List Event → List Listed → Type 0) where
  pub starts : (x : Listing) → rows x ≡ [] → x.count ≡ 0 → is [] [] → Kept is x ([] ∷ [])
  starts x none zero s = record {
    now = [];
    count = sym zero;
    shown = subst (is []) (sym none) s;
    each = begins_more [] [] [] (λ j v at. absurd cc) (prefix_nil []);
  }

  pub admits : Admits (Kept is) []
  admits x views k = record { now = k.now; count = k.count; shown = k.shown; each = begins_more k.now views [] k.each (prefix_nil k.now) }

  pub sees : (seat : ℕ) (v : List Event) (x : Listing) → TurnsAt (Kept is) seat v x x (Sees is)
  sees seat v x views k at = (
    k.now,
    record { now = k.now; count = k.count; shown = k.shown; each = begins_set k.now k.now views seat k.now k.each (prefix_refl k.now) (prefix_refl k.now) },
    record { seen = k.each seat v at; count = k.count; shown = k.shown },
  )

  -- who has seen as many events as the listing is of has seen all, and may go on
  pub shows : (to : List Event) (seat : ℕ) (v : List Event) (x y : Listing) → length v ≡ x.count → IsPrefix v to → length to ≡ y.count → is to (rows y)
      → TurnsAt (Kept is) seat v x y (λ v x y w. w ≡ to)
  shows to seat v x y all longer count s views k at =
      let same : v ≡ k.now = prefix_whole v k.now (k.each seat v at) (all ∙ sym k.count) in
      let on : IsPrefix k.now to = subst (λ h. IsPrefix h to) same longer in (
        to,
        record { now = to; count = count; shown = s; each = begins_set k.now to views seat to k.each on (prefix_refl to) },
        refl,
      )
