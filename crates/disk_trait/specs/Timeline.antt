-- The images that a log of steps leaves, moment by moment.
use Rattle.std.proofs.Common.{◌≡◌, ◌<◌, ◌≤◌, ◌+◌, ◌-◌, ◌^◌, inr, ⊎_elim, ℕ, List, [], ◌∷◌, ◌++◌, Bool, true, false, cond, leb, ◌&&◌, T, min, Some, arith, refl, sym, ◌∙◌, ap, subst, string_bytes}
use Rattle.std.specs.List.{list_all}
use Rattle.std.proofs.lemmas.Bool.{cases_lt, lt-leb}
use Rattle.std.proofs.Math.Facts.{leb_yes, yes_leb}
use Rattle.std.specs.FinMap.{empty}
use Rattle.disk_trait.specs.Files.{Files}
use Rattle.disk_trait.specs.Disk.{LeavesOnly, After, Now}
use Rattle.disk_trait.specs.Laws.{placed_other}
use Rattle.disk_trait.specs.Replay.{done, played, stepped, leaves, until, all_by, images_of}
use Rattle.disk_trait.specs.Replayed.{played_push}
use Rattle.disk_trait.specs.declared.step_log.Step.{Step}
use Rattle.disk_trait.specs.declared.step_log.Step.TheVariants.{Put, Rename, Remove, Sync}
use Rattle.disk_trait.specs.declared.step_log.LoggedStep.{LoggedStep}

pub both : (a b : Bool) → T a → T b → T (a && b)
both true b p q = q
both false b p q = p

pub first : (a b : Bool) → T (a && b) → T a
first true b p = tt
first false b p = p

pub second : (a b : Bool) → T (a && b) → T b
second true b p = p
second false b p = absurd p

pub all_by_later : (a b : ℕ) (log : List LoggedStep) → a ≤ b → all_by a log → all_by b log
all_by_later a b [] le h = tt
all_by_later a b (e ∷ log) le h =
    let here : e.at ≤ a = leb_yes {a = e.at} {b = a} (first _ (list_all (λ x. leb x.at a) log) h) in
    both _ _ (yes_leb (omega arith)) (all_by_later a b log le (second _ _ h))

pub all_by_push : (t : ℕ) (log : List LoggedStep) (e : LoggedStep) → e.at ≤ t → all_by t log → all_by t (log ++ e ∷ [])
all_by_push t [] e le h = both _ _ (yes_leb le) tt
all_by_push t (x ∷ log) e le h = both _ _ (first _ _ h) (all_by_push t log e le (second _ _ h))

yes : (b : Bool) → T b → b ≡ true
yes true h = refl
yes false h = absurd h

pub until_all : (t : ℕ) (log : List LoggedStep) → all_by t log → until t log ≡ log
until_all t [] h = refl
until_all t (e ∷ log) h = ap (λ b. cond b (e ∷ until t log) (until t log)) (yes _ (first _ _ h)) ∙ ap (λ (l : List LoggedStep). e ∷ l) (until_all t log (second _ _ h))

pub until_push : (t : ℕ) (log : List LoggedStep) (e : LoggedStep) → t < e.at → until t (log ++ e ∷ []) ≡ until t log
until_push t [] e lt = ap (λ b. cond b (e ∷ []) []) (lt-leb e.at t lt)
until_push t (x ∷ log) e lt = ap (λ l. cond (leb x.at t) (x ∷ l) l) (until_push t log e lt)

pub leaves_push : (es : List LoggedStep) (files : Files) (P : Files → Type 0) (e : LoggedStep) (c : Files) → leaves (es ++ e ∷ []) files P c → stepped e.step (played files es) (leaves es files P) c
leaves_push [] files P e c h = h
leaves_push (x ∷ es) files P e c h = leaves_push es (done files x.step) (stepped x.step files P) e c h

as_done : (step : Step) (files : Files) (P : Files → Type 0) → P files → stepped step files P (done files step)
as_done (Put name bytes) files P p = (files, p, placed_other files (string_bytes name) (Some bytes.items))
as_done (Rename from to) files P p = (files, p, inr refl)
as_done (Remove name) files P p = (files, p, inr refl)
as_done Sync files P p = refl

pub leaves_played : (es : List LoggedStep) (files : Files) (P : Files → Type 0) → P files → leaves es files P (played files es)
leaves_played [] files P p = p
leaves_played (e ∷ es) files P p = leaves_played es (done files e.step) (stepped e.step files P) (as_done e.step files P p)

abbrev pub left_by : List LoggedStep → Files → Type 0
left_by log c = leaves log empty (λ b. b ≡ empty) c

pub read_now : (now : ℕ) (log : List LoggedStep) → all_by now log → now < 2 ^ 64 - 1 → images_of now log now (played empty log)
read_now now log by lt = (omega arith, lt, subst (λ l. left_by l (played empty log)) (sym (until_all now log by)) (leaves_played log empty (λ b. b ≡ empty) refl))

module _ {D : Type 0} (calls : D → ℕ) (log : D → List LoggedStep) (by : (d : D) → all_by (calls d) (log d)) where
  abbrev images : D → ℕ → Files → Type 0
  images d t c = images_of (calls d) (log d) t c

  -- an image after all that was done before is one of the moment before
  now_image : (old : D) (t : ℕ) (c : Files) → calls old ≤ t → t < 2 ^ 64 - 1 → left_by (log old) c → images old (calls old) c
  now_image old t c le lt h = (omega arith, omega arith, subst (λ l. left_by l c) (sym (until_all (calls old) (log old) (by old))) h)

  whole_log : (old : D) (t : ℕ) → calls old ≤ t → until t (log old) ≡ log old
  whole_log old t le = until_all t (log old) (all_by_later (calls old) t (log old) le (by old))

  pub quiet_leaves : (old new : D) (S : Files → Files → Type 0) → ((c : Files) → S c c) → calls old ≤ calls new → log new ≡ log old → LeavesOnly calls images old new (After calls images old S)
  quiet_leaves old new S same le is = record {
    later = le;
    past = λ t c early i. (early, i.1, subst (λ l. left_by (until t l) c) is i.2);
    stays = λ t c early i. (omega (arith, early, le), i.1, subst (λ l. left_by (until t l) c) (sym is) i.2);
    each = λ t c late i. (c, now_image old t c late i.1 (subst (λ l. left_by l c) (ap (until t) is ∙ whole_log old t late) i.2), same c);
  }

  pub logged_leaves : (old new : D) (e : LoggedStep) (S : Files → Files → Type 0) → ((c : Files) → S c c) → calls old ≤ calls new → calls new ≡ min (calls old + 1) (2 ^ 64 - 1) → log new ≡ log old ++ e ∷ [] → e.at ≡ calls new
      → ((c : Files) → stepped e.step (played empty (log old)) (left_by (log old)) c → (b : Files) × left_by (log old) b × S b c)
      → LeavesOnly calls images old new (After calls images old S)
  logged_leaves old new e S same le count is at step = record {
    later = le;
    past = λ t c early i. (early, i.1, subst (λ l. left_by l c) (ap (until t) is ∙ until_push t (log old) e (omega (arith, early, i.1, count, at))) i.2);
    stays = λ t c early i. (omega (arith, early, le), i.1, subst (λ l. left_by l c) (sym (ap (until t) is ∙ until_push t (log old) e (omega (arith, early, i.1, count, at)))) i.2);
    each = λ t c late i. ⊎_elim
        (λ (lt : t < e.at). let h : left_by (log old) c = subst (λ l. left_by l c) (ap (until t) is ∙ until_push t (log old) e lt ∙ whole_log old t late) i.2 in
        let a : After calls images old S c = (c, now_image old t c late i.1 h, same c) in a)
        (λ (ge : e.at ≤ t). let h : left_by (log old ++ e ∷ []) c = subst (λ l. left_by l c) (whole_log new t (omega (arith, ge, at)) ∙ is) i.2 in
        let s = step c (leaves_push (log old) empty (λ b. b ≡ empty) e c h) in
        let a : After calls images old S c = (s.0, now_image old t s.0 late i.1 s.1, s.2) in a)
        (cases_lt t e.at);
  }

  pub synced : (old new : D) (e : LoggedStep) → e.step ≡ Sync → log new ≡ log old ++ e ∷ [] → Now calls images new (λ c. c ≡ played empty (log new))
  synced old new e is_sync is c i =
      let h : left_by (log old ++ e ∷ []) c = subst (λ l. left_by l c) (whole_log new (calls new) (omega arith) ∙ is) i.2 in
      let s : stepped e.step (played empty (log old)) (left_by (log old)) c = leaves_push (log old) empty (λ b. b ≡ empty) e c h in
      let s2 : c ≡ played empty (log old) = subst (λ x. stepped x (played empty (log old)) (left_by (log old)) c) is_sync s in
      s2 ∙ sym (ap (played empty) is ∙ played_push (log old) empty e ∙ ap (done (played empty (log old))) is_sync)
