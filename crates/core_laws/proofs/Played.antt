-- A list of acts, by one act more.
use Rattle.std.proofs.Common.{◌≡◌, ◌<◌, ◌≤◌, ◌+◌, ℕ, false, List, [], ◌∷◌, ◌++◌, ⊎_elim, refl, sym, ap, subst, ◌∙◌, arith}
use Rattle.std.proofs.lemmas.List.{append_assoc, append-nil, map-append}
use Rattle.std.proofs.lemmas.Bool.{cases_lt}
use Rattle.disk_trait.specs.declared.disk.Disk.{Ghosts}
use Rattle.port_traits.specs.declared.clock.Clock as clocks
use Rattle.store_history.specs.declared.act.Act.{Act}
use Rattle.store_history.specs.declared.act.Answer.{Answer}
use Rattle.store_history.specs.declared.act.Event.{Event}
use Rattle.store_history.specs.Acts.{Class, stepping, reaching, starting, sweeping, wanting, ending, class_of}
use Rattle.core_state.specs.declared.state.Core.{Core}
use Rattle.core_state.specs.Applies.{ActApplies, ActKeeps, CoreApplies}
use Rattle.core_state.specs.Closing.{is_closing}
use Rattle.core_state.specs.Entering.{OthersHold, held_by}
use Rattle.core_state.specs.History.{event_of}
use Rattle.core_state.specs.Records.{Reaches}
use Rattle.store_history.specs.RemoteDisk.{reads_remote}
use Rattle.core_state.specs.Reserved.{ClassKeeps, Keeps, KeepsSpare}
use Rattle.core_state.proofs.Reaching.{reaches_more}
use Rattle.core_laws.specs.Playing.{AllWhole, HasPlayed, asked_in, with_more}
use Rattle.shared_store.specs.Comes.{SameCore}
use Rattle.shared_store.proofs.Reserving.{reserved_reaches}

-- ---- the events

pub none_played : {D E C : Type 0} (d : Ghosts D) (e : Ghosts E) (clock : clocks.Ghosts C) (old new : Core D E C) → SameCore old new → HasPlayed d e clock old new [] []
none_played d e clock old new same = record {
  events = [];
  asked = refl;
  answered = refl;
  leads = λ first began h x.
      subst (λ es. Reaches d e clock.readings first began new (record h { events = es })) (sym (append-nil h.events)) (reserved_reaches d e clock.readings old new same first began h x);
}

pub played_more : {D E C : Type 0} (d : Ghosts D) (e : Ghosts E) (clock : clocks.Ghosts C) (first mid new : Core D E C) (acts : List (ℕ × Act)) (answers : List Answer) (lane : ℕ) (act : Act) (answer : Answer)
    → lane < 64 → CoreApplies d e clock mid new lane act answer → (reads_remote act answer ≡ false → ActApplies d clock mid new lane act answer) → ActKeeps d mid new lane act answer → HasPlayed d e clock first mid acts answers
    → HasPlayed d e clock first new (acts ++ (lane, act) ∷ []) (answers ++ answer ∷ [])
played_more d e clock first mid new acts answers lane act answer lt applies alone keeps played =
    let event : Event = event_of act answer (d.calls (new.parts).disk) in
    let asked : asked_in event ≡ (lane, act) = ap (λ n. (n, act)) (applies.answers).lane_is in record {
      events = played.events ++ event ∷ [];
      asked = map-append asked_in played.events (event ∷ []) ∙ ap (λ xs. xs ++ asked_in event ∷ []) played.asked ∙ ap (λ x. acts ++ x ∷ []) asked;
      answered = map-append (λ v. v.answer) played.events (event ∷ []) ∙ ap (λ xs. xs ++ answer ∷ []) played.answered;
      leads = λ one began h x.
          subst (λ es. Reaches d e clock.readings one began new (record h { events = es })) (append_assoc h.events played.events (event ∷ []))
          (reaches_more d e clock one began mid new lane act answer lt applies alone keeps (with_more h played.events) (played.leads one began h x));
    }

-- ---- the reserves

spare_by : {D E C : Type 0} (c : Class) (old new : Core D E C) (lane : ℕ) (closing : _) (answer : Answer) → ClassKeeps c old new lane closing answer
    → KeepsSpare old.journal new.journal lane × OthersHold old.journal new.journal lane
spare_by stepping old new lane closing answer keeps = (keeps.spare, keeps.others)
spare_by reaching old new lane closing answer keeps = (keeps.spare, keeps.others)
spare_by starting old new lane closing answer keeps = (keeps.spare, keeps.others)
spare_by sweeping old new lane closing answer keeps = (keeps.spare, keeps.others)
spare_by wanting old new lane closing answer keeps = (keeps.spare, keeps.others)
spare_by ending old new lane closing answer keeps = (keeps.spare, keeps.others)

keeps_spare : {D E C : Type 0} (act : Act) (old new : Core D E C) (lane : ℕ) (answer : Answer) → Keeps act old new lane answer
    → KeepsSpare old.journal new.journal lane × OthersHold old.journal new.journal lane
keeps_spare act old new lane answer keeps = spare_by (class_of act) old new lane (is_closing old lane act) answer keeps

-- the reserves stay whole, and one spare entry is used at most
pub stays_whole : {D E C : Type 0} (old new : Core D E C) (lane : ℕ) (act : Act) (answer : Answer) → lane < 64 → 0 < (old.journal).spare → Keeps act old new lane answer
    → AllWhole old → AllWhole new
stays_whole old new lane act answer lt some keeps whole other within =
    let is = keeps_spare act old new lane answer keeps in
    let mine : 3 ≤ held_by new.journal lane = (is.0 (whole lane lt) some).0 in
    let theirs : (other ≡ lane → ⊥) → 3 ≤ held_by new.journal other = λ apart. subst (λ n. 3 ≤ n) (sym (is.1 other apart)) (whole other within) in
    ⊎_elim {C = 3 ≤ held_by new.journal other}
    (λ below. theirs (λ same. absurd (omega (arith, below, same))))
    (λ above. ⊎_elim {C = 3 ≤ held_by new.journal other}
    (λ over. theirs (λ same. absurd (omega (arith, over, same))))
    (λ under. let same : lane ≡ other = omega (arith, above, under) in subst (λ n. 3 ≤ held_by new.journal n) same mine)
    (cases_lt lane other))
    (cases_lt other lane)

pub one_spare : {D E C : Type 0} (old new : Core D E C) (lane : ℕ) (act : Act) (answer : Answer) → lane < 64 → 0 < (old.journal).spare → Keeps act old new lane answer
    → AllWhole old → (old.journal).spare ≤ (new.journal).spare + 1
one_spare old new lane act answer lt some keeps whole = ((keeps_spare act old new lane answer keeps).0 (whole lane lt) some).1
