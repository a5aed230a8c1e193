-- What a call does to a session it does to each plain writer that the session shows, where the steps answer alike.
use Rattle.std.proofs.Common.{◌≡◌, Ok, Err, refl, sym, ap, ◌∙◌}
use Rattle.std.specs.Prelude.{Result, MatchResult}
use Rattle.std.specs.List.{AllByRecursion}
use Rattle.store_types.specs.declared.refusal.Refusal.{Refusal}
use Rattle.store_stops.proofs.OutcomeLemmas.{weaker_cause}
use Rattle.store_model.specs.Store.{Writer}
use Rattle.backup_session.specs.Session.{Writing, Session}
use Rattle.backup_session.specs.Shown.{IsOpen, shown}
use Rattle.backup_session.specs.Answers.{Does, LeavesShown, DoesPlainly}

-- the steps answer alike, and what the plain one leaves is shown by what the other leaves
abbrev pub Agrees : {B : Type 0} → Result (Writing × B) Refusal → Result (Writer × B) Refusal → Type 0
Agrees step plain = MatchResult plain (λ a. (step ≡ Ok (shown a.0, a.1)) × AllByRecursion IsOpen (a.0).begun) (λ refusal. step ≡ Err refusal)

module _ {A B : Type 0} (show : A → B) (leave : Writing → Session) (old new : Session)
    (step : Writing → Result (Writing × B) Refusal) (plain : Writer → Result (Writer × B) Refusal)
    (agrees : (w : Writer) → AllByRecursion IsOpen w.begun → Agrees (step (shown w)) (plain w)) where
  same_refusal : (w : Writer) (refusal : Refusal) → step (shown w) ≡ Err refusal → (r : Result (Writer × B) Refusal) → plain w ≡ r → Agrees (step (shown w)) r → plain w ≡ Err refusal
  same_refusal w refusal is (Ok a) e h = let clash = sym h.0 ∙ is in cc
  same_refusal w refusal is (Err r) e h = let same = sym h ∙ is in cc

  same_answer : (w : Writer) (a : A) (v : Writing) → step (shown w) ≡ Ok (v, show a) → new ≡ leave v → (r : Result (Writer × B) Refusal) → plain w ≡ r
      → Agrees (step (shown w)) r → LeavesShown leave new (plain w) (show a)
  same_answer w a v is left (Err r) e h = let clash = sym h ∙ is in cc
  same_answer w a v is left (Ok p) e h =
      let pair : ◌≡◌ {A = Writing × B} (shown p.0, p.1) (v, show a) = let both = sym h.0 ∙ is in cc in
      record {
        plain = p.0;
        stepped = e ∙ ap (λ b. Ok (p.0, b)) (ap (λ x. x.1) pair);
        after = v;
        left = left;
        shows = record { same = sym (ap (λ x. x.0) pair); begun = h.1 };
      }

  pub plainly : (result : Result A Refusal) → Does show leave old new result (step old.writer) → DoesPlainly show leave old new result plain
  plainly (Err stop) does w shows =
      weaker_cause (λ refusal. step old.writer ≡ Err refusal) (λ refusal. plain w ≡ Err refusal) stop
      (λ refusal told. same_refusal w refusal (sym (ap step shows.same) ∙ told) (plain w) refl (agrees w shows.begun)) does.0
  plainly (Ok a) does w shows = same_answer w a does.after (sym (ap step shows.same) ∙ does.stepped) does.left (plain w) refl (agrees w shows.begun)
