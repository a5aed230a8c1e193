-- Ports that are read one after another.
use Rattle.std.proofs.Common.{◌≡◌, ℕ, ◌+◌, ◌*◌, ◌<◌, ◌≤◌, List, [], ◌∷◌, ◌++◌, length, map, set, get_or, Option, None, Result, Err, refl, sym, ap, subst, ◌∙◌, ◌≢◌, inl, inr, arith}
use Rattle.std.proofs.lemmas.Bool.{cases_eq}
use Rattle.std.proofs.lemmas.List.{get_or-map, get_or-set_same, get_or-set_other, get_or_append_left, get_or_push, length-map, length-set, length_push, map-set, set-get_or}
use Rattle.port_traits.specs.declared.source.Source as sources
use Rattle.port_traits.specs.Faults.{Rose}
use Rattle.store_history.specs.declared.port.Port.{Port}
use Rattle.replay.specs.Reading.{IsReadOut, IsTooLong, ReadsOut, HasReadCause}
use Rattle.replay.specs.declared.reading.Unread.{Unread}
use Rattle.replay.specs.declared.reading.Unread.TheVariants as unread
use Rattle.run_check.specs.declared.fault.CheckFault.{CheckFault}
use Rattle.run_check.specs.declared.fault.CheckFault.TheVariants as faults
use Rattle.run_check.specs.Faults.{fault_of}
use Rattle.run_check.specs.Ports.{IsRead, Keeps, ReadsAt, ReadsEach, faults_at, left_at}
use Rattle.run_check.specs.Sessions.{IsWhy}

-- ---- a port that is another

module _ {S K A : Type 0} (f : Port S K → A) (ports : List (Port S K)) (place : ℕ) (p q : Port S K) (below : place < length ports) (is : p ≡ get_or ports place p) where
  of_port : (d : A) → get_or (map f ports) place d ≡ f p
  of_port d = get_or-map f ports place p d below ∙ ap f (sym is)

  of_set : (d : A) → get_or (map f (set ports place q)) place d ≡ f q
  of_set d = ap (λ xs. get_or xs place d) (map-set f ports place q) ∙ get_or-set_same (map f ports) place (f q) d (omega (arith, length-map ports f))

  of_other : (d : A) (i : ℕ) → i ≢ place → get_or (map f (set ports place q)) i d ≡ get_or (map f ports) i d
  of_other d i other = ap (λ xs. get_or xs i d) (map-set f ports place q) ∙ get_or-set_other (map f ports) place i (f q) d other

  of_same : f q ≡ f p → map f (set ports place q) ≡ map f ports
  of_same same =
      map-set f ports place q ∙ ap (set (map f ports) place) (same ∙ sym (of_port (f p)))
      ∙ set-get_or (map f ports) place (f p)

apart_from : (first n k : ℕ) → k < n → first + 2 * n ≢ first + 2 * k
apart_from first n k below same = omega arith

rose_since : (a b c : ℕ) → a ≤ b → Rose b c → Rose a c
rose_since a b c later rose = omega arith

-- what was read is all that the port held
pub is_read : {A : Type 0} (l m : Option (List ℕ)) (tells : List ℕ → A → Type 0) (told : A) (read : IsReadOut l m tells told) → IsRead l m read.all
is_read l m tells told read = record { took = read.took; ended = read.ended; within = read.within }

module _ {S K : Type 0} (source : sources.Ghosts S) where
  pub keeps_none : (ports : List (Port S K)) → Keeps source ports ports
  keeps_none ports = record { count = refl; sinks = refl; later = λ i. omega arith }

  pub keeps_both : (a b c : List (Port S K)) → Keeps source a b → Keeps source b c → Keeps source a c
  keeps_both a b c first second = record {
    count = second.count ∙ first.count;
    sinks = second.sinks ∙ first.sinks;
    later = λ i. omega (arith, first.later i, second.later i);
  }

  -- by the port that was read
  pub reads_at : {A : Type 0} (ports : List (Port S K)) (place : ℕ) (p q : Port S K) (tells : List ℕ → A → Type 0) (result : Result A Unread) →
      place < length ports → p ≡ get_or ports place p → q.sink ≡ p.sink →
      ReadsOut (source.left p.source) (source.left q.source) tells result → HasReadCause (source.faults p.source) (source.faults q.source) result →
      ReadsAt source place ports (set ports place q) tells result
  reads_at ports place p q tells result below is sink reads cause =
      let left_old = of_port (λ r. source.left r.source) ports place p q below is None in
      let left_new = of_set (λ r. source.left r.source) ports place p q below is None in
      let faults_old = of_port (λ r. source.faults r.source) ports place p q below is 0 in
      let faults_new = of_set (λ r. source.faults r.source) ports place p q below is 0 in
      record {
        keeps = record {
          count = length-set ports place q;
          sinks = of_same (λ r. r.sink) ports place p q below is sink;
          later = λ i. elim (cases_eq i place) [
            | inl here ↦ omega (arith, cause.later, faults_old, faults_new, ap (faults_at source ports) here, ap (faults_at source (set ports place q)) here)
            | inr other ↦ omega (arith, of_other (λ r. source.faults r.source) ports place p q below is 0 i other)
          ];
        };
        others = of_other (λ r. source.left r.source) ports place p q below is None;
        reads = subst (λ a. ReadsOut a (left_at source (set ports place q) place) tells result) (sym left_old)
            (subst (λ b. ReadsOut (source.left p.source) b tells result) (sym left_new) reads);
        cause = subst (λ a. HasReadCause a (faults_at source (set ports place q) place) result) (sym faults_old)
            (subst (λ b. HasReadCause (source.faults p.source) b result) (sym faults_new) cause);
      }

  -- ---- each second one

  pub reads_none : (first : ℕ) (ports : List (Port S K)) → ReadsEach source first ports ports []
  reads_none first ports = record {
    keeps = keeps_none ports;
    each = λ k below. absurd (omega arith);
    others = λ i apart. refl;
  }

  -- the next was not read before
  pub unread_before : (first : ℕ) (a b : List (Port S K)) (texts : List (List ℕ)) → ReadsEach source first a b texts →
      left_at source b (first + 2 * length texts) ≡ left_at source a (first + 2 * length texts)
  unread_before first a b texts before = before.others (first + 2 * length texts) (λ k below. apart_from first (length texts) k below)

  pub reads_more : (first : ℕ) (a b c : List (Port S K)) (texts : List (List ℕ)) (text : List ℕ) → ReadsEach source first a b texts → Keeps source b c →
      IsRead (left_at source b (first + 2 * length texts)) (left_at source c (first + 2 * length texts)) text →
      ((i : ℕ) → i ≢ first + 2 * length texts → left_at source c i ≡ left_at source b i) → ReadsEach source first a c (texts ++ text ∷ [])
  reads_more first a b c texts text before keeps read apart = record {
    keeps = keeps_both a b c before.keeps keeps;
    each = each;
    others = λ i other. apart i (here i other) ∙ before.others i (λ k below. other k (omega (arith, length_push texts text)));
  }
    where
      next : ℕ
      next = first + 2 * length texts

      here : (i : ℕ) → ((k : ℕ) → k < length (texts ++ text ∷ []) → i ≢ first + 2 * k) → i ≢ first + 2 * length texts
      here i other = other (length texts) (omega (arith, length_push texts text))

      earlier : (k : ℕ) → k < length texts → IsRead (left_at source a (first + 2 * k)) (left_at source c (first + 2 * k)) (get_or (texts ++ text ∷ []) k [])
      earlier k below =
          subst (λ t. IsRead (left_at source a (first + 2 * k)) (left_at source c (first + 2 * k)) t) (sym (get_or_append_left texts (text ∷ []) [] k below))
          (subst (λ l. IsRead (left_at source a (first + 2 * k)) l (get_or texts k []))
          (sym (apart (first + 2 * k) (λ same. apart_from first (length texts) k below (sym same)))) (before.each k below))

      last : IsRead (left_at source a (first + 2 * length texts)) (left_at source c (first + 2 * length texts)) (get_or (texts ++ text ∷ []) (length texts) [])
      last =
          subst (λ t. IsRead (left_at source a (first + 2 * length texts)) (left_at source c (first + 2 * length texts)) t) (sym (get_or_push texts text [] (length texts) refl))
          (subst (λ l. IsRead l (left_at source c (first + 2 * length texts)) text) (unread_before first a b texts before) read)

      each : (k : ℕ) → k < length (texts ++ text ∷ []) → IsRead (left_at source a (first + 2 * k)) (left_at source c (first + 2 * k)) (get_or (texts ++ text ∷ []) k [])
      each k below = elim (cases_eq k (length texts)) [
        | inl is ↦ subst (λ n. IsRead (left_at source a (first + 2 * n)) (left_at source c (first + 2 * n)) (get_or (texts ++ text ∷ []) n [])) (sym is) last
        | inr other ↦ earlier k (omega (arith, length_push texts text))
      ]

  -- ---- why not

  -- a port that was not read before is not read to its end
  pub why_at : {A : Type 0} (first n : ℕ) (a b c : List (Port S K)) (tells : List ℕ → A → Type 0) (cause : Unread) → first + 2 * n < length a → Keeps source a b →
      left_at source b (first + 2 * n) ≡ left_at source a (first + 2 * n) → ReadsAt source (first + 2 * n) b c tells (Err cause) → IsWhy source first a c (fault_of cause)
  why_at first n a b c tells unread.Failed here keeps fresh at =
      record { place = first + 2 * n; here = here; rose = rose_since _ _ _ (keeps.later (first + 2 * n)) (at.cause.failed refl) }
  why_at first n a b c tells unread.TooLong here keeps fresh at =
      record { nth = n; here = here; long = subst (λ l. IsTooLong l (left_at source c (first + 2 * n))) fresh at.reads }
  why_at first n a b c tells unread.NoMemory here keeps fresh at = tt

  -- none of these ports were read before
  pub why_since : (first : ℕ) (a b c : List (Port S K)) (fault : CheckFault) → Keeps source a b →
      ((n : ℕ) → left_at source b (first + 2 * n) ≡ left_at source a (first + 2 * n)) → IsWhy source first b c fault → IsWhy source first a c fault
  why_since first a b c faults.SourceFault keeps fresh why =
      record { place = why.place; here = omega (arith, keeps.count, why.here); rose = rose_since _ _ _ (keeps.later why.place) why.rose }
  why_since first a b c faults.SourceTooLong keeps fresh why =
      record { nth = why.nth; here = omega (arith, keeps.count, why.here); long = subst (λ l. IsTooLong l (left_at source c (first + 2 * why.nth))) (fresh why.nth) why.long }
  why_since first a b c faults.NoMemory keeps fresh why = tt
  why_since first a b c faults.DiskFault keeps fresh why = absurd why
  why_since first a b c faults.RemoteFault keeps fresh why = absurd why
  why_since first a b c faults.BadOrder keeps fresh why = absurd why

  -- the next of them is not read to its end
  pub why_next : {A : Type 0} (first : ℕ) (a b c : List (Port S K)) (texts : List (List ℕ)) (n : ℕ) (tells : List ℕ → A → Type 0) (cause : Unread) → length texts ≡ n → first + 2 * n < length a →
      ReadsEach source first a b texts → ReadsAt source (first + 2 * n) b c tells (Err cause) → IsWhy source first a c (fault_of cause)
  why_next first a b c texts n tells cause count here before at =
      why_at first n a b c tells cause here before.keeps
      (subst (λ k. left_at source b (first + 2 * k) ≡ left_at source a (first + 2 * k)) count (unread_before first a b texts before)) at
