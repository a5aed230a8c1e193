-- The last touches beside those that would be, had no chunk been taken out.
use Rattle.std.proofs.Common.{◌≡◌, ◌≤◌, ◌<◌, ◌⊎◌, inl, inr, ℕ, suc, max, Bool, true, false, cond, List, [], map, Option, Some, None, refl, sym, subst, ap, ◌∙◌, arith, is_some, ltb-true}
use Rattle.std.specs.Prelude.{option_map, IfSome}
use Rattle.std.specs.Str.{bytes_eq}
use Rattle.std.proofs.lemmas.Bool.{false≢true}
use Rattle.std.proofs.lemmas.Slice.Eq.{bytes_eq-Decides}
use Rattle.wire_commands.specs.declared.command.Command.TheVariants.{Append}
use Rattle.wire_commands.specs.declared.reply.Reply.{Reply}
use Rattle.wire_commands.specs.declared.reply.Reply.TheVariants.{Done}
use Rattle.atime_book.specs.Touches.{greatest, is_stale}
use Rattle.store_history.specs.declared.act.Act.{Act}
use Rattle.store_history.specs.declared.act.Act.TheVariants as acts
use Rattle.store_history.specs.declared.act.Event.{Event}
use Rattle.store_history.specs.Acts.{class_of}
use Rattle.store_history.specs.History.{moment, kind, reply, kind_of}
use Rattle.store_history.specs.LastTouches.{LastTouches, is_one_of, dated, touched_by, touches_after}
use Rattle.store_history.specs.Sweeping.{Sweep, Swept, next_marks, is_pass, sweep_of, passing, marks_in, touched_after, without}
use Rattle.store_upkeep.specs.Safety.{IsThere}
use Rattle.store_upkeep.proofs.Members.{some_same, none_some, is_one_in}
use Rattle.store_upkeep.proofs.Freshness.{Sends, Touches}
use Rattle.store_upkeep.proofs.Stocking.{touched_by_there, touches_there}
use Rattle.store_upkeep.proofs.Taking.{pass_is}

-- ---- one chunk

-- p is its last touch, and q what that would be: the same, or where it was taken out one that is less than c
abbrev pub Follows : ℕ → Option ℕ → Option ℕ → Type 0
Follows c (Some m) q = q ≡ Some m
Follows c None q = IfSome q (λ m. m < c)

pub follows_itself : (c : ℕ) (p : Option ℕ) → Follows c p p
follows_itself c None = tt
follows_itself c (Some m) = refl

pub follows_later : (b c : ℕ) (p q : Option ℕ) → b ≤ c → Follows b p q → Follows c p q
follows_later b c (Some m) q le f = f
follows_later b c None None le f = tt
follows_later b c None (Some m) le f =
    let below : m < b = f in
    let above : m < c = omega arith in above

raised_follows : (c m : ℕ) (here : Bool) (p q : Option ℕ) → (here ≡ true → is_some p ≡ true) → Follows c p q
    → Follows c (cond here (option_map (λ when. max when m) p) p) (cond here (option_map (λ when. max when m) q) q)
raised_follows c m true (Some l) q there f = ap (option_map (λ when. max when m)) f
raised_follows c m true None q there f = absurd (false≢true (there refl))
raised_follows c m false p q there f = f

came_follows : (c m : ℕ) (here : Bool) (p q : Option ℕ) → c ≤ suc m → Follows c p q → Follows c (cond here (Some (greatest p m)) p) (cond here (Some (greatest q m)) q)
came_follows c m true (Some l) q le f = ap (λ x. Some (greatest x m)) f
came_follows c m true None None le f = refl
came_follows c m true None (Some l) le f =
    let below : l < c = f in
    let same : max l m ≡ m = omega arith in
    ap (λ x. Some x) same
came_follows c m false p q le f = f

touched_by_follows : (act : Act) (r : Option Reply) (m c : ℕ) (t u : LastTouches) (d : List ℕ) → c ≤ suc m → (Touches act r d → Sends act r d ⊎ IsThere t d)
    → Follows c (t.last d) (u.last d) → Follows c ((touched_by act r m t).last d) ((touched_by act r m u).last d)
touched_by_follows (acts.Chunk digest checked) (Some Done) m c t u d le named f = came_follows c m (bytes_eq digest.0 d) (t.last d) (u.last d) le f
touched_by_follows (acts.Plain (Append number entries)) (Some Done) m c t u d le named f =
    raised_follows c m (is_one_of d (map (λ e. (e.digest).0) entries)) (t.last d) (u.last d)
    (λ here. by_part (named (is_one_in d (map (λ e. (e.digest).0) entries) here))) f
  where
    by_part : ⊥ ⊎ IsThere t d → IsThere t d
    by_part (inl h) = absurd h
    by_part (inr there) = there
touched_by_follows act r m c t u d le named f = f

-- ---- the chunks without a date

undated_kept : (act : Act) (r : Option Reply) (m : ℕ) (t : LastTouches) (d : List ℕ) → (touched_by act r m t).undated d ≡ t.undated d
undated_kept (acts.Chunk digest checked) (Some Done) m t d = refl
undated_kept (acts.Plain (Append number entries)) (Some Done) m t d = refl
undated_kept act r m t d = refl

dated_follows : (m c : ℕ) (t u : LastTouches) (d : List ℕ) (b : Bool) → t.undated d ≡ b → u.undated d ≡ b → (b ≡ true → IsThere t d) → Follows c (t.last d) (u.last d)
    → Follows c ((dated m t).last d) ((dated m u).last d)
dated_follows m c t u d b tb ub there f =
    subst (λ x. Follows c (cond x (option_map (λ when. max when m) (t.last d)) (t.last d)) ((dated m u).last d)) (sym tb)
    (subst (λ x. Follows c (cond b (option_map (λ when. max when m) (t.last d)) (t.last d)) (cond x (option_map (λ when. max when m) (u.last d)) (u.last d))) (sym ub)
    (raised_follows c m b (t.last d) (u.last d) there f))

tended_follows : (e : Event) (c : ℕ) (t u : LastTouches) (d : List ℕ) → c ≤ suc (moment e) → (Touches e.act (reply e) d → Sends e.act (reply e) d ⊎ IsThere t d)
    → u.undated d ≡ t.undated d → (t.undated d ≡ true → IsThere t d) → Follows c (t.last d) (u.last d) → Follows c ((touches_after t e).last d) ((touches_after u e).last d)
tended_follows e c t u d le named same there f =
    dated_follows (moment e) c (touched_by e.act (reply e) (moment e) t) (touched_by e.act (reply e) (moment e) u) d (t.undated d)
    (undated_kept e.act (reply e) (moment e) t d) (undated_kept e.act (reply e) (moment e) u d ∙ same)
    (λ is. touched_by_there e.act (reply e) (moment e) t d (there is))
    (touched_by_follows e.act (reply e) (moment e) c t u d le named f)

-- ---- an event, before a chunk is taken out

pub touched_follows : (s : Swept) (e : Event) (c : ℕ) (u : LastTouches) (d : List ℕ) → c ≤ suc (moment e) → (Touches e.act (reply e) d → Sends e.act (reply e) d ⊎ IsThere s.touches d)
    → (is_one_of d (marks_in (passing s e)) ≡ true → IsThere s.touches d) → u.undated d ≡ s.touches.undated d → (s.touches.undated d ≡ true → IsThere s.touches d)
    → Follows c (s.touches.last d) (u.last d) → Follows c ((touched_after s e s.touches).last d) ((touched_after s e u).last d)
touched_follows s e c u d le named marked same there f =
    raised_follows c (moment e) (is_one_of d (marks_in (passing s e))) ((touches_after s.touches e).last d) ((touches_after u e).last d)
    (λ here. touches_there e s.touches d (marked here))
    (tended_follows e c s.touches u d le named same there f)

-- ---- a chunk that is taken out

gone_follows : (b c : ℕ) (p q : Option ℕ) → Follows b p q → is_stale p c ≡ true → Follows c None q
gone_follows b c None q f stale = absurd (false≢true stale)
gone_follows b c (Some l) q f stale = subst (λ x. IfSome x (λ m. m < c)) (sym f) (ltb-true l c stale)

-- it was stale with a cutoff b that is at most c
pub without_follows : (taken : Option (List ℕ)) (c : ℕ) (t : LastTouches) (q : Option ℕ) (d : List ℕ) → (taken ≡ Some d → (b : ℕ) × (b ≤ c) × (is_stale (t.last d) b ≡ true))
    → Follows c (t.last d) q → Follows c ((without taken t).last d) q
without_follows None c t q d stale f = f
without_follows (Some digest) c t q d stale f = by_test (bytes_eq digest d) refl
  where
    gone : (b : ℕ) × (b ≤ c) × (is_stale (t.last d) b ≡ true) → Follows c None q
    gone at = follows_later at.0 c None q at.1 (gone_follows c at.0 (t.last d) q f at.2)

    by_test : (x : Bool) → bytes_eq digest d ≡ x → Follows c (cond x None (t.last d)) q
    by_test true same = gone (stale (ap (λ x. Some x) ((bytes_eq-Decides digest d).0 same)))
    by_test false same = f

pub gone_by : (taken : Option (List ℕ)) (t : LastTouches) (d : List ℕ) → taken ≡ Some d → IsThere (without taken t) d → ⊥
gone_by None t d e there = none_some d e
gone_by (Some x) t d e there = false≢true (sym (ap (λ b. is_some (cond b None (t.last d))) ((bytes_eq-Decides x d).1 (some_same x d e))) ∙ there)

pub without_undated : (taken : Option (List ℕ)) (t : LastTouches) (d : List ℕ) → (without taken t).undated d ≡ t.undated d
without_undated None t d = refl
without_undated (Some digest) t d = refl

dated_last : (m : ℕ) (t : LastTouches) (d : List ℕ) → t.undated d ≡ false → (dated m t).last d ≡ t.last d
dated_last m t d off = ap (λ b. cond b (option_map (λ when. max when m) (t.last d)) (t.last d)) off

tended_last : (e : Event) (t : LastTouches) (d : List ℕ) → t.undated d ≡ false → (touches_after t e).last d ≡ (touched_by e.act (reply e) (moment e) t).last d
tended_last e t d off = dated_last (moment e) (touched_by e.act (reply e) (moment e) t) d (undated_kept e.act (reply e) (moment e) t d ∙ off)

-- a visit touches nothing
pub visit_last : (s : Swept) (e : Event) (d : List ℕ) (sweep : Sweep) → is_pass (class_of e.act) (kind_of (kind e)) ≡ true → s.sweep ≡ Some sweep → sweep.unmarked ≡ []
    → s.touches.undated d ≡ false → (touched_after s e s.touches).last d ≡ s.touches.last d
visit_last s e d sweep pass is all off =
    let t = touches_after s.touches e in
    let none_marked : marks_in (passing s e) ≡ [] = ap (λ b. marks_in (sweep_of s.sweep b)) pass ∙ ap marks_in is ∙ ap next_marks all in
    ap (λ ds. cond (is_one_of d ds) (option_map (λ when. max when (moment e)) (t.last d)) (t.last d)) none_marked
    ∙ tended_last e s.touches d off
    ∙ ap (λ a. (touched_by a (reply e) (moment e) s.touches).last d) (pass_is e.act (kind e) pass).0
