-- How the sweep goes on at each event, and that what holds at all times holds after it.
use Rattle.std.proofs.Common.{◌≡◌, ◌≤◌, ◌⊎◌, inl, inr, ℕ, zero, suc, Bool, true, false, not, List, [], ◌∷◌, ◌++◌, take, drop, get_or, replicate, Option, Some, None, refl, sym, subst, ap, ◌∙◌, arith}
use Rattle.std.specs.Prelude.{option_map, IsSomeAnd}
use Rattle.std.specs.List.{filter}
use Rattle.store_types.specs.declared.names.SnapshotKey.{SnapshotKey}
use Rattle.store_files.specs.Archive.{File, Snapshot}
use Rattle.wire_commands.specs.declared.reply.Reply.{Reply}
use Rattle.store_model.specs.Store.{Session, none, Writer, writer, Reader, reader, Store, lane_count, session}
use Rattle.store_model.specs.Lanes.{Collecting}
use Rattle.atime_book.specs.Touches.{cutoff_of}
use Rattle.store_history.specs.declared.act.Act.{Act}
use Rattle.store_history.specs.declared.act.Event.{Event}
use Rattle.store_history.specs.Acts.{Class, starting, sweeping, class_of}
use Rattle.store_history.specs.History.{World, Opening, opened, moved, after, after_all, lane, moment, kind, reply, EntryKind, kind_of, pass_kind, start_kind}
use Rattle.store_history.specs.Legal.{IsRight, IsLegal}
use Rattle.store_history.specs.LastTouches.{LastTouches}
use Rattle.store_history.specs.Sweeping.{digests_of, Unmarked, unmarked_of, indexes_of, indexes_in, mark_limit, Sweep, Swept, swept_at, earlier, oldest_in, new_sweep, next_marks, passed, is_pass, sweep_of, passing, forgets, spared, swept_by, while_open, swept_after, swept_all}
use Rattle.store_upkeep.specs.Safety.{In, Has, IsFresh, IsUnmarked, IsSafe}
use Rattle.store_upkeep.proofs.Members.{none_some, in_left, in_right, in_flat_map, in_filter, split_at}
use Rattle.store_upkeep.proofs.Freshness.{Sends, Touches, touches_with, stays_fresh, is_fresh_now, is_marked_now}
use Rattle.store_upkeep.proofs.Acting.{Forgets, event_moves}
use Rattle.store_upkeep.proofs.Kept.{Goes, on, begins, closed, Steps, kept}

-- ---- the start

same_writer : (v x : Writer) → writer v ≡ writer x → v ≡ x
same_writer v x e = cc

none_writer : (x : Writer) → none ≡ writer x → ⊥
none_writer x e = cc

reader_writer : (r : Reader) (x : Writer) → reader r ≡ writer x → ⊥
reader_writer r x e = cc

-- the oldest of these writers began no later than any of them
oldest_first : (xs : List Session) (j : ℕ) (x : Writer) → get_or xs j none ≡ writer x → IsSomeAnd (oldest_in xs) (λ oldest. oldest ≤ x.start)
oldest_first [] j x runs = absurd (none_writer x runs)
oldest_first (writer v ∷ ys) zero x runs = earliest (oldest_in ys) v.start x.start (ap (λ (u : Writer). u.start) (same_writer v x runs))
  where
    earliest : (o : Option ℕ) (a b : ℕ) → a ≡ b → IsSomeAnd (earlier o a) (λ oldest. oldest ≤ b)
    earliest None a b e = omega arith
    earliest (Some n) a b e = omega arith
oldest_first (none ∷ ys) zero x runs = absurd (none_writer x runs)
oldest_first (reader r ∷ ys) zero x runs = absurd (reader_writer r x runs)
oldest_first (writer v ∷ ys) (suc j) x runs = one_more (oldest_in ys) v.start x.start (oldest_first ys j x runs)
  where
    one_more : (o : Option ℕ) (a b : ℕ) → IsSomeAnd o (λ oldest. oldest ≤ b) → IsSomeAnd (earlier o a) (λ oldest. oldest ≤ b)
    one_more None a b h = absurd h
    one_more (Some n) a b h = omega arith
oldest_first (none ∷ ys) (suc j) x runs = oldest_first ys j x runs
oldest_first (reader r ∷ ys) (suc j) x runs = oldest_first ys j x runs

cutoff_below : (m : ℕ) (o : Option ℕ) (b : ℕ) → IsSomeAnd o (λ oldest. oldest ≤ b) → cutoff_of m o ≤ b
cutoff_below m None b h = absurd h
cutoff_below m (Some n) b h = omega arith

cutoff_in_time : (m : ℕ) (o : Option ℕ) → cutoff_of m o ≤ m
cutoff_in_time m None = omega arith
cutoff_in_time m (Some n) = omega arith

unmarked_has : (key : SnapshotKey) (name : List ℕ) (ds : List (List ℕ)) (d : List ℕ) → In d ds → IsUnmarked (unmarked_of key name ds) key d
unmarked_has key name [] d h = absurd h
unmarked_has key name (e ∷ es) d h = (record { key = key; name = name; digests = e ∷ es }, inl refl, refl, h)

-- what finished snapshots have is to be marked
covers : (xs : List Snapshot) (x : Snapshot) (d : List ℕ) → In x xs → Has x.files d → IsUnmarked (indexes_in xs) x.key d
covers xs x d at has =
    let u = unmarked_has x.key (has.0).name (digests_of (has.0).content) d has.2 in
    (u.0, in_flat_map indexes_of xs x u.0 at (in_flat_map (λ (f : File). unmarked_of x.key f.name (digests_of f.content)) x.files has.0 u.0 has.1 u.1), u.2, u.3)

starts : (s : Store) (m : ℕ) (touches : LastTouches) (old : Option Sweep) → Goes s m touches old (Some (new_sweep s m))
starts s m touches old =
    begins (new_sweep s m) refl (cutoff_in_time m (oldest_in s.sessions)) (λ j x runs. cutoff_below m (oldest_in s.sessions) x.start (oldest_first s.sessions j x runs)) (covers s.snapshots)

-- ---- a mark or a visit

same_cutoff : (s : Swept) (sweep : Sweep) (us : List Unmarked) → (passed s sweep us).cutoff ≡ sweep.cutoff
same_cutoff s sweep [] = refl
same_cutoff s sweep (u ∷ us) = refl

module _ (s : Swept) (e : Event) (sweep : Sweep) (le : sweep.cutoff ≤ moment e) where
  -- what was to come still is, or is marked now
  by_first : (us : List Unmarked) → sweep.unmarked ≡ us → (key : SnapshotKey) (d : List ℕ) → IsUnmarked us key d
      → IsFresh (touches_with s e (Some sweep)) (passed s sweep us).cutoff d ⊎ IsUnmarked (passed s sweep us).unmarked key d
  by_first [] is key d h = absurd h.1
  by_first (u ∷ us) is key d h = by_place h.0 h.1 h.2 h.3
    where
      rest : List Unmarked
      rest = unmarked_of u.key u.name (drop mark_limit u.digests)

      by_part : u.key ≡ key → In d (take mark_limit u.digests) ⊎ In d (drop mark_limit u.digests)
          → IsFresh (touches_with s e (Some sweep)) sweep.cutoff d ⊎ IsUnmarked (rest ++ us) key d
      by_part same (inl now) = inl (is_marked_now s e (Some sweep) sweep.cutoff d le (subst (λ xs. In d (next_marks xs)) (sym is) now))
      by_part same (inr behind) =
          let v = unmarked_has u.key u.name (drop mark_limit u.digests) d behind in
          inr (v.0, in_left (unmarked_of u.key u.name (drop mark_limit u.digests)) us v.0 v.1, v.2 ∙ same, v.3)

      by_place : (v : Unmarked) → (v ≡ u) ⊎ In v us → v.key ≡ key → In d v.digests
          → IsFresh (touches_with s e (Some sweep)) sweep.cutoff d ⊎ IsUnmarked (rest ++ us) key d
      by_place v (inl first) same has =
          by_part (ap (λ (x : Unmarked). x.key) (sym first) ∙ same) (split_at mark_limit u.digests d (subst (λ (x : Unmarked). In d x.digests) first has))
      by_place v (inr later) same has = inr (v, in_right (unmarked_of u.key u.name (drop mark_limit u.digests)) us v later, same, has)

passes : (w : World) (s : Swept) (e : Event) → IsSafe w s → w.moment ≤ moment e → (o : Option Sweep) → s.sweep ≡ o
    → Goes w.store (moment e) (touches_with s e o) o (option_map (λ sweep. passed s sweep sweep.unmarked) o)
passes w s e h risen None is = closed refl
passes w s e h risen (Some sweep) is =
    on sweep (passed s sweep sweep.unmarked) refl refl (same_cutoff s sweep sweep.unmarked)
    (λ x d at has unmarked. by_first s e sweep (omega (arith, h.cut sweep is, risen)) sweep.unmarked refl x.key d unmarked)

-- ---- all else: the indexes of a snapshot that is forgotten go

module _ (t : Store) (m : ℕ) (touches : LastTouches) (act : Act) (r : Option Reply) (gone : (x : Snapshot) → In x t.snapshots → forgets act r x.key ≡ true → ⊥) where
  spared_still : (us : List Unmarked) (x : Snapshot) (d : List ℕ) → In x t.snapshots → IsUnmarked us x.key d → IsUnmarked (filter (λ u. not (forgets act r u.key)) us) x.key d
  spared_still us x d at h = (h.0, in_filter (λ u. not (forgets act r u.key)) us h.0 h.1 (by_test (forgets act r (h.0).key) refl), h.2, h.3)
    where
      by_test : (b : Bool) → forgets act r (h.0).key ≡ b → not (forgets act r (h.0).key) ≡ true
      by_test true is = absurd (gone x at (ap (forgets act r) (sym h.2) ∙ is))
      by_test false is = ap not is

  spares : (o : Option Sweep) → Goes t m touches o (option_map (spared act r) o)
  spares None = closed refl
  spares (Some sweep) = on sweep (spared act r sweep) refl refl refl (λ x d at has unmarked. inr (spared_still sweep.unmarked x d at unmarked))

-- ---- an event

open_or_closed : (t : Store) (m : ℕ) (touches : LastTouches) (old new : Option Sweep) (o : Option Collecting) → Goes t m touches old new → Goes t m touches old (while_open o new)
open_or_closed t m touches old new None g = closed refl
open_or_closed t m touches old new (Some collecting) g = g

module _ (R : Option (List Snapshot)) (w : World) (s : Swept) (e : Event) (h : IsSafe w s) (risen : w.moment ≤ moment e) where
  by_class : (c : Class) (n : EntryKind) → ((x : Snapshot) → In x ((moved R w (lane e) (moment e) e.act n).store).snapshots → forgets e.act (reply e) x.key ≡ true → ⊥)
      → Goes (moved R w (lane e) (moment e) e.act n).store (moment e) (touches_with s e (sweep_of s.sweep (is_pass c n))) s.sweep (swept_by w s e c n)
  unfolding moved
  by_class starting start_kind gone = starts w.store (moment e) (touches_with s e None) s.sweep
  by_class sweeping pass_kind gone = passes w s e h risen s.sweep refl
  by_class c n gone =
      spares (moved R w (lane e) (moment e) e.act n).store (moment e) (touches_with s e (sweep_of s.sweep (is_pass c n))) e.act (reply e) gone s.sweep

pub event_steps : (R : Option (List Snapshot)) (w : World) (s : Swept) (e : Event) → IsSafe w s → IsRight R w e
    → Steps w (after R w e) s (swept_after R w s e) (Sends e.act (reply e)) (Touches e.act (reply e)) (Forgets e.act (reply e))
unfolding after swept_after
event_steps R w s e h right =
    let moves = event_moves R w e right in
    let n = kind_of (kind e) in
    record {
      moves = moves;
      risen = right.risen;
      stays = λ c d le fresh. stays_fresh s e (passing s e) c d le fresh;
      fresh = λ c d le touched. is_fresh_now s e (passing s e) c d le touched;
      goes = open_or_closed (moved R w (lane e) (moment e) e.act n).store (moment e) (touches_with s e (passing s e)) s.sweep (swept_by w s e (class_of e.act) n)
          (moved R w (lane e) (moment e) e.act n).collecting (by_class R w s e h right.risen (class_of e.act) n moves.gone);
    }

pub safe_after : (R : Option (List Snapshot)) (w : World) (s : Swept) (e : Event) → IsSafe w s → IsRight R w e → IsSafe (after R w e) (swept_after R w s e)
safe_after R w s e h right =
    kept w (after R w e) s (swept_after R w s e) (Sends e.act (reply e)) (Touches e.act (reply e)) (Forgets e.act (reply e)) h (event_steps R w s e h right)

pub safe_all : (R : Option (List Snapshot)) (w : World) (s : Swept) (es : List Event) → IsLegal R w es → IsSafe w s → IsSafe (after_all R w es) (swept_all R w s es)
unfolding after_all swept_all
safe_all R w s [] legal h = h
safe_all R w s (e ∷ es) legal h = safe_all R (after R w e) (swept_after R w s e) es legal.1 (safe_after R w s e h legal.0)

-- ---- the opening

none_at : (n j : ℕ) → get_or (replicate n none) j none ≡ none
none_at zero j = refl
none_at (suc n) zero = refl
none_at (suc n) (suc j) = none_at n j

pub no_session : (o : Opening) (j : ℕ) → session (opened o).store j ≡ none
no_session o j = none_at lane_count j

none_reader : (r : Reader) → none ≡ reader r → ⊥
none_reader r e = cc

pub opened_safe : (o : Opening) → IsSafe (opened o) (swept_at o)
opened_safe o = record {
  began = λ j x runs. absurd (no_writer j x runs);
  cut = λ sweep is. absurd (none_some sweep is);
  later = λ sweep is j x runs. absurd (none_some sweep is);
  touched = λ j x runs. absurd (no_writer j x runs);
  marked = λ sweep is x at d has. absurd (none_some sweep is);
  bases = λ j x key runs base. absurd (no_writer j x runs);
  readers = λ j r reads. absurd (none_reader r (sym (no_session o j) ∙ reads));
}
  where
    no_writer : (j : ℕ) (x : Writer) → session (opened o).store j ≡ writer x → ⊥
    no_writer j x runs = none_writer x (sym (no_session o j) ∙ runs)

pub histories_safe : (R : Option (List Snapshot)) (o : Opening) (es : List Event) → IsLegal R (opened o) es → IsSafe (after_all R (opened o) es) (swept_all R (opened o) (swept_at o) es)
histories_safe R o es legal = safe_all R (opened o) (swept_at o) es legal (opened_safe o)
