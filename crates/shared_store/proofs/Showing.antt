-- What is shown of a history, and what notes tell of it.
use Rattle.std.proofs.Common.{◌≡◌, ◌∙◌, ℕ, zero, suc, ◌+◌, false, List, [], ◌∷◌, ◌++◌, length, Option, Some, None, IfSome, IfNone, append-nil, append_assoc, sym, ap, subst, arith}
use Rattle.std.specs.Prelude.{slice_get}
use Rattle.std.specs.Arc.{arc_value}
use Rattle.std.specs.declared.sync.Arc.{Arc}
use Rattle.std.specs.declared.alloc.Global.{Global}
use Rattle.std.specs.declared.vec.Vec.{Vec}
use Rattle.std.proofs.lemmas.List.{length-append, length-map}
use mathlib.Core.List.{IsPrefix}
use Rattle.disk_trait.specs.declared.disk.Disk.{Ghosts}
use Rattle.port_traits.specs.declared.clock.Clock as clocks
use Rattle.store_history.specs.declared.act.Act.{Act}
use Rattle.store_history.specs.declared.act.Answer.{Answer}
use Rattle.store_history.specs.declared.act.Event.{Event}
use Rattle.core_state.specs.declared.state.Core.{Core}
use Rattle.core_state.specs.History.{event_of}
use Rattle.listing_views.specs.declared.chunk.Chunk.{Chunk}
use Rattle.listing_views.specs.declared.listed.Listed.{Listed}
use Rattle.listing_views.specs.Rows.{all_rows}
use Rattle.core_state.specs.declared.parts.Parts.{Parts}
use Rattle.store_history.specs.History.{entry}
use Rattle.shared_store.specs.Comes.{CameTo, ComesTo, SameCore, StandsFor}
use Rattle.shared_store.proofs.Coming.{comes_room}
use Rattle.shared_store.specs.Views.{AreQuiet, IsActedOn, IsNoteOf, IsQuietFrom, changes, rows_of}

abbrev Next : Type 0
Next = Option (Arc (Vec (Arc Chunk Global) Global) Global)

-- ---- events that changed nothing

quiet_more : (es : List Event) (e : Event) → AreQuiet es → changes e ≡ false → AreQuiet (es ++ e ∷ [])
quiet_more [] e q none = (none, tt)
quiet_more (x ∷ xs) e q none = (q.0, quiet_more xs e q.1 none)

quiet_at : (es : List Event) → AreQuiet es → (k : ℕ) (e : Event) → slice_get es k ≡ Some e → changes e ≡ false
quiet_at [] q k e at = absurd (none_there e at)
  where
    none_there : (e : Event) → None ≡ Some e → ⊥
    none_there e at = cc
quiet_at (x ∷ xs) q zero e at =
    let is : x ≡ e = cc in subst (λ (y : Event). changes y ≡ false) is q.0
quiet_at (x ∷ xs) q (suc k) e at = quiet_at xs q.1 k e at

pub quiet_from : (shown rest : List Event) → AreQuiet rest → IsQuietFrom (length shown) (length (shown ++ rest)) (shown ++ rest)
quiet_from [] rest q k e from to at = quiet_at rest q k e at
quiet_from (x ∷ xs) rest q zero e from to at = absurd (omega (arith, from))
quiet_from (x ∷ xs) rest q (suc k) e from to at = quiet_from xs rest q k e (omega (arith, from)) (omega (arith, to)) at

pub note_of : (note : ℕ) (shown rest events : List Event) → length shown ≡ note → shown ++ rest ≡ events → AreQuiet rest → IsNoteOf note events
note_of note shown rest events count whole q =
    subst (λ (es : List Event). IsNoteOf note es) whole
    (subst (λ (n : ℕ). IsNoteOf n (shown ++ rest)) count
    (record { most = let both = length-append shown rest in omega (arith, both); quiet = quiet_from shown rest q }))

-- ---- the history goes on

pub longer : (shown rest events : List Event) (v : Event) → shown ++ rest ≡ events → IsPrefix shown (events ++ v ∷ [])
longer shown rest events v whole = (rest ++ v ∷ [], sym (append_assoc shown rest (v ∷ [])) ∙ ap (λ (es : List Event). es ++ v ∷ []) whole)

-- what stands behind the turn, by what was posted
pub record Shown {D E C : Type 0} (d : Ghosts D) (e : Ghosts E) (clock : clocks.Ghosts C) (is_first : Core D E C → Type 0) (core : Core D E C) (shown : List Event) (rows : List Listed) (events : List Event) : Type 0 where
  pub comes : ComesTo d e clock is_first core events
  pub rest : List Event
  pub whole : shown ++ rest ≡ events
  pub quiet : AreQuiet rest
  pub rows_are : rows ≡ rows_of (core.parts).catalogue.listed

abbrev first_of : List Event → Option (List Event × List Listed) → List Event
first_of a None = a
first_of a (Some p) = p.0

abbrev second_of : List Listed → Option (List Event × List Listed) → List Listed
second_of a None = a
second_of a (Some p) = p.1

module _ {D E C : Type 0} (d : Ghosts D) (e : Ghosts E) (clock : clocks.Ghosts C) (is_first : Core D E C → Type 0) where
  pub shows_from : (core : Core D E C) (posted : Option (List Event × List Listed)) (events v : List Event) (r : List Listed) → StandsFor d e clock is_first core posted events → posted ≡ Some (v, r)
      → Shown d e clock is_first core v r events
  shows_from core posted events v r s is =
      let same : Some (v, r) ≡ Some (s.shown, rows_of (core.parts).catalogue.listed) = sym is ∙ s.posted_is in record {
        comes = s.comes;
        rest = s.rest;
        whole = ap (λ (es : List Event). es ++ s.rest) (ap (first_of v) same) ∙ s.whole;
        quiet = s.quiet;
        rows_are = ap (second_of r) same;
      }

  pub stands_from : (core : Core D E C) (events v : List Event) (r : List Listed) → Shown d e clock is_first core v r events → StandsFor d e clock is_first core (Some (v, r)) events
  stands_from core events v r s = record {
    comes = s.comes;
    shown = v;
    rest = s.rest;
    whole = s.whole;
    quiet = s.quiet;
    posted_is = ap (λ (rs : List Listed). Some (v, rs)) s.rows_are;
  }

  -- room is made
  pub stands_room : (old new : Core D E C) (shown events : List Event) (rows : List Listed) → SameCore old new → Shown d e clock is_first old shown rows events → Shown d e clock is_first new shown rows events
  stands_room old new shown events rows same s = record {
    comes = comes_room d e clock is_first old new events same s.comes;
    rest = s.rest;
    whole = s.whole;
    quiet = s.quiet;
    rows_are = s.rows_are ∙ ap (λ (p : Parts D). rows_of p.catalogue.listed) (sym same.parts);
  }

  -- a history is as long as its order
  pub counted : (core : Core D E C) (events : List Event) → ComesTo d e clock is_first core events → length events ≡ length (core.journal).entries.items
  counted core events comes = let n = ap length comes.entries_are in omega (arith, n, length-map events entry)

  -- what the next rows are of
  pub next_shows : (next : Next) (old new : Core D E C) (act : Act) (answer : Answer) (events : List Event) → ComesTo d e clock is_first new events → IsActedOn old new act answer next
      → IfSome next (λ x. CameTo d e clock is_first events (all_rows (arc_value x).items))
  next_shows None old new act answer events comes acted = tt
  next_shows (Some x) old new act answer events comes acted = record { core = new; comes = comes; rows_are = acted }

  -- they are shown, or what was shown stands for one event more
  pub stands_next : (next : Next) (old new : Core D E C) (act : Act) (answer : Answer) (calls : ℕ) (events shown shown' : List Event) (rows rows' : List Listed)
      → Shown d e clock is_first old shown rows events → ComesTo d e clock is_first new (events ++ event_of act answer calls ∷ []) → IsActedOn old new act answer next
      → IfSome next (λ x. (shown' ≡ events ++ event_of act answer calls ∷ []) × (rows' ≡ all_rows (arc_value x).items)) → IfNone next ((shown' ≡ shown) × (rows' ≡ rows))
      → Shown d e clock is_first new shown' rows' (events ++ event_of act answer calls ∷ [])
  unfolding longer
  stands_next None old new act answer calls events shown shown' rows rows' s comes acted some none = record {
    comes = comes;
    rest = s.rest ++ event_of act answer calls ∷ [];
    whole = ap (λ (es : List Event). es ++ (s.rest ++ event_of act answer calls ∷ [])) none.0 ∙ (longer shown s.rest events (event_of act answer calls) s.whole).1;
    quiet = quiet_more s.rest (event_of act answer calls) s.quiet acted.0;
    rows_are = none.1 ∙ s.rows_are ∙ ap rows_of (sym acted.1);
  }
  stands_next (Some x) old new act answer calls events shown shown' rows rows' s comes acted some none = record {
    comes = comes;
    rest = [];
    whole = ap (λ (es : List Event). es ++ []) some.0 ∙ append-nil (events ++ event_of act answer calls ∷ []);
    quiet = tt;
    rows_are = some.1 ∙ acted;
  }

pub some_map : {A : Type 0} {P Q : A → Type 0} (o : Option A) → ((x : A) → P x → Q x) → IfSome o P → IfSome o Q
some_map None f p = tt
some_map (Some x) f p = f x p
