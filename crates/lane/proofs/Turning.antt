-- What a lane did so far, after one turn more.
use Rattle.std.proofs.Common.{◌≡◌, ◌≢◌, ℕ, ◌+◌, ◌-◌, Bool, true, false, List, [], ◌∷◌, ◌++◌, length, if◌then◌else◌, Option, Some, None, IfSome, refl, sym, ap, subst, ◌∙◌, arith, append-nil, append_assoc}
use Rattle.std.specs.Io.KnownBytes.{prepend_known}
use Rattle.std.proofs.lemmas.List.{length-append}
use Rattle.store_types.specs.declared.refusal.Refusal.{Refusal}
use Rattle.store_types.specs.declared.refusal.Refusal.TheVariants.{BadFrame}
use Rattle.port_traits.specs.Bytes.{TakesFrom, WritesCounted}
use Rattle.port_traits.proofs.BytesLemmas.{WritesCounted-then}
use Rattle.wire_frames.specs.Frames.{Tail, frame, short, cut}
use Rattle.wire_commands.specs.declared.reply.Reply.{Reply}
use Rattle.wire_commands.specs.declared.reply.Reply.TheVariants.{Done, Refused}
use Rattle.wire_commands.specs.ReplyText.{reply_text}
use Rattle.wire_commands.specs.Inputs.{front, cut_front}
use Rattle.store_model.specs.declared.ending.Ending.{Ending}
use Rattle.store_model.specs.declared.ending.Ending.TheVariants as endings
use Rattle.store_model.specs.Lanes.{bye, broken, end, front_next}
use Rattle.store_model.specs.Weave.{is_replied}
use Rattle.store_history.specs.declared.act.Event.{Event}
use Rattle.store_history.specs.LaneRun.{Ahead, ahead, Position, begin, text, next_at, tells, last_words, EndsSo}
use Rattle.store_history.specs.SoFar.{Leads, grown}
use Rattle.store_history.proofs.Ending.{next_is, next_end}
use Rattle.store_history.proofs.Growing.{leads_grown, leads_runs}
use Rattle.core_state.specs.History.{History}
use Rattle.shared_store.specs.Comes.{with_events}
use Rattle.lane.specs.declared.input.Input.{Input}
use Rattle.lane.specs.declared.ending.Last.{Last}
use Rattle.lane.specs.AtOnce.{gave_all}
use Rattle.lane.specs.Fronts.{next_in, IsLastAhead}
use Rattle.lane.specs.Progress.{Start, position, HasServed, HasStopped, HasWords}
use Rattle.lane.specs.Ran.{Took, ReadsOut}
use Rattle.lane.specs.Taking.{TakesMore, TakesNothing, TakesTooLong, Stays}
use Rattle.lane.specs.Turns.{HasEnded, between, within_frame}
use Rattle.lane.proofs.AtOnce.{gave_so, leads_to}

-- ---- bytes

pub nothing_taken : (left : Option (List ℕ)) → TakesFrom left left []
nothing_taken None = refl
nothing_taken (Some xs) = refl

pub taken_on : (a b c : Option (List ℕ)) (xs ys : List ℕ) → TakesFrom a b xs → TakesFrom b c ys → TakesFrom a c (xs ++ ys)
taken_on a b None xs ys first second = rw second at first
taken_on a b (Some rest) xs ys first second = first ∙ ap (prepend_known xs) second ∙ ap Some (sym (append_assoc xs ys rest))

begins : (a b : Option (List ℕ)) (xs : List ℕ) → TakesFrom a b xs → IfSome a (λ all. (rest : List ℕ) × (all ≡ xs ++ rest))
begins a None xs is = subst (λ o. IfSome o (λ all. (rest : List ℕ) × (all ≡ xs ++ rest))) (sym is) tt
begins a (Some rest) xs is = subst (λ o. IfSome o (λ all. (rest : List ℕ) × (all ≡ xs ++ rest))) (sym is) (rest, refl)

text_more : (told : List Reply) (r : Reply) → text (told ++ r ∷ []) ≡ text told ++ frame (reply_text r)
unfolding text
text_more [] r = append-nil (frame (reply_text r))
text_more (x ∷ told) r = ap (λ xs. frame (reply_text x) ++ xs) (text_more told r) ∙ sym (append_assoc (frame (reply_text x)) (text told) (frame (reply_text r)))

pub gave_more : (a b c : Option (List ℕ)) (m n : ℕ) (told : List Reply) (r : Reply) (all : Bool) → WritesCounted a b 0 m (text told) true
    → WritesCounted b c m n (frame (reply_text r)) all → WritesCounted a c 0 n (text (told ++ r ∷ [])) all
gave_more a b c m n told r all first second =
    subst (λ xs. WritesCounted a c 0 n xs all) (sym (text_more told r)) (WritesCounted-then a b c 0 m n (text told) (frame (reply_text r)) all first second)

empty : (xs : List ℕ) → length xs ≡ 0 → xs ≡ []
empty [] h = refl
empty (x ∷ xs) h = absurd (omega arith)

-- ---- the beginning

gave_nothing : (taken : Option (List ℕ)) → WritesCounted taken taken 0 0 (text []) true
unfolding text
gave_nothing None = record { count = 0; how_many = refl; added = refl; counted = refl }
gave_nothing (Some xs) = record { count = 0; how_many = refl; added = ap Some (sym (append-nil xs)); counted = refl }

pub starts : (stands : History → Type 0) (h : History) (k : ℕ) (left taken : Option (List ℕ)) (tail : Tail) (size : ℕ) → stands h → h.events ≡ []
    → tail ≡ record { offset = 0; bytes = [] } → size ≡ 0
    → HasServed stands (record { history = h; left = left; taken = taken }) k left taken tail size 0
starts stands h k left taken tail size s none tail_is size_is = record {
  events = [];
  input = [];
  told = [];
  stands_for = subst (λ es. stands (with_events h es)) none s;
  lanes = tt;
  leads = ap (λ (t : Tail). position [] t.bytes []) (sym tail_is);
  size_is = sym size_is;
  held = ap (λ (t : Tail). t.offset + length t.bytes) tail_is ∙ sym size_is;
  took = nothing_taken left;
  gave = gave_nothing taken;
}

-- ---- more of the input

grown_begin : (input piece : List ℕ) → grown piece (begin input) ≡ begin (input ++ piece)
grown_begin input piece = ap (λ n. record (begin (input ++ piece)) { size = n }) (sym (length-append input piece))

grown_position : (input left piece : List ℕ) (told : List Reply)
    → grown piece (position input left told) ≡ position (input ++ piece) (left ++ piece) told
grown_position input left piece told =
    ap (λ n. record (position (input ++ piece) (left ++ piece) told) { size = n }) (sym (length-append input piece))

pub leads_further : (input left piece : List ℕ) (told : List Reply) (vs : List Event) → Leads (begin input) vs (position input left told)
    → Leads (begin (input ++ piece)) vs (position (input ++ piece) (left ++ piece) told)
leads_further input left piece told vs led =
    subst (λ p. Leads p vs (position (input ++ piece) (left ++ piece) told)) (grown_begin input piece)
    (subst (λ q. Leads (grown piece (begin input)) vs q) (grown_position input left piece told)
    (leads_grown piece vs (begin input) (position input left told) led))

pub took_more : (stands : History → Type 0) (start : Start) (k : ℕ) (left left' taken : Option (List ℕ)) (old new : Input) (given : ℕ)
    → HasServed stands start k left taken old.cutter old.taken given → TakesMore left left' old new → HasServed stands start k left' taken new.cutter new.taken given
took_more stands start k left left' taken old new given s m =
    let bytes : (new.cutter).bytes ≡ (old.cutter).bytes ++ m.piece = ap (λ (t : Tail). t.bytes) ((m.feeds).fed_is) in
    let offset : (new.cutter).offset ≡ (old.cutter).offset = ap (λ (t : Tail). t.offset) ((m.feeds).fed_is) in
    record {
      events = s.events;
      input = s.input ++ m.piece;
      told = s.told;
      stands_for = s.stands_for;
      lanes = s.lanes;
      leads = subst (λ xs. Leads (begin (s.input ++ m.piece)) s.events (position (s.input ++ m.piece) xs s.told)) (sym bytes)
          (leads_further s.input (old.cutter).bytes m.piece s.told s.events s.leads);
      size_is = omega (arith, length-append s.input m.piece, s.size_is, (m.feeds).taken);
      held = omega (arith, ap length bytes, length-append (old.cutter).bytes m.piece, offset, s.held, (m.feeds).taken);
      took = taken_on start.left left left' s.input m.piece s.took m.took;
      gave = s.gave;
    }

-- ---- where a lane is

here : (stands : History → Type 0) (start : Start) (k : ℕ) (left taken : Option (List ℕ)) (tail : Tail) (size given : ℕ)
    → HasServed stands start k left taken tail size given → Position
here stands start k left taken tail size given s = position s.input tail.bytes s.told

next_here : (tail : Tail) (p : Position) → p.task ≡ None → p.left ≡ tail.bytes → p.size ≡ tail.offset + length tail.bytes → next_at p ≡ ahead (next_in tail)
next_here tail p off left size =
    next_is p (front p.left) off refl
    ∙ ap (λ n. ahead (front_next n (front p.left))) (let e = ap length left in let at : p.size - length p.left ≡ tail.offset = omega arith in at)
    ∙ ap (λ xs. ahead (front_next tail.offset (front xs))) left

-- ---- where its commands come to an end

pub silent : (e : Ending) (p : Position) (n : Ahead) → is_replied e ≡ false → last_words e p n ≡ p
unfolding last_words
silent e p (ahead bye) h = ap (λ b. if b then tells p [] Done else p) h
silent e p (ahead (broken r)) h = ap (λ b. if b then tells p [] (Refused r) else p) h
silent e p n h = refl

pub no_words : (e : Ending) (p : Position) → is_replied e ≡ false → (last_words e p (next_at p)).told ≡ p.told ++ []
no_words e p h = ap (λ (q : Position). q.told) (silent e p (next_at p) h) ∙ sym (append-nil p.told)

-- where it stops, as it is
stopped : (stands : History → Type 0) (start : Start) (k : ℕ) (left left' taken : Option (List ℕ)) (tail : Tail) (size given : ℕ) (e : Ending) (words : Option Reply)
    → (s : HasServed stands start k left taken tail size given) → gave_all e ≡ true → Took e start.left left' s.input
    → EndsSo e (position s.input tail.bytes s.told) (next_at (position s.input tail.bytes s.told))
    → HasWords e (position s.input tail.bytes s.told) words
    → ReadsOut e s.input s.events [] left'
    → HasStopped stands start k left' taken size given e words
stopped stands start k left left' taken tail size given e words s all took so says out = record {
  events = s.events;
  input = s.input;
  last = position s.input tail.bytes s.told;
  stands_for = s.stands_for;
  lanes = s.lanes;
  runs = λ f vs told. leads_runs f s.events vs (begin s.input) (position s.input tail.bytes s.told) told refl s.leads;
  on = refl;
  off = refl;
  size_is = s.size_is;
  took = took;
  gave = subst (λ b. WritesCounted start.taken taken 0 given (text s.told) b) (sym all) s.gave;
  so = so;
  says = says;
  read_out = out;
  comes = leads_to false endings.SinkFault s.events (begin s.input) (position s.input tail.bytes s.told) s.leads;
  all_but_one = gave_so e s.told given all;
}

pub at_next : (stands : History → Type 0) (start : Start) (k : ℕ) (left taken : Option (List ℕ)) (tail : Tail) (size given : ℕ)
    → (s : HasServed stands start k left taken tail size given) → next_at (position s.input tail.bytes s.told) ≡ ahead (next_in tail)
at_next stands start k left taken tail size given s =
    next_here tail (position s.input tail.bytes s.told) refl refl (s.size_is ∙ sym s.held)

bye_words : (p : Position) (n : Ahead) → n ≡ ahead bye → (last_words endings.Clean p n).told ≡ p.told ++ Done ∷ []
unfolding last_words
bye_words p n is = ap (λ x. (last_words endings.Clean p x).told) is

broken_words : (p : Position) (n : Ahead) (place : ℕ) (r : Refusal) → n ≡ ahead (broken r) → (last_words (endings.Broken place) p n).told ≡ p.told ++ Refused r ∷ []
unfolding last_words
broken_words p n place r is = ap (λ x. (last_words (endings.Broken place) p x).told) is

end_words : (p : Position) (n : Ahead) → n ≡ ahead end → (last_words endings.Clean p n).told ≡ p.told ++ []
unfolding last_words
end_words p n is = ap (λ x. (last_words endings.Clean p x).told) is ∙ sym (append-nil p.told)

-- BYE is next
pub bye_stops : (stands : History → Type 0) (start : Start) (k : ℕ) (left taken : Option (List ℕ)) (tail : Tail) (size given : ℕ)
    → HasServed stands start k left taken tail size given → IsLastAhead tail bye → HasStopped stands start k left taken size given endings.Clean (Some Done)
bye_stops stands start k left taken tail size given s seen =
    let p = position s.input tail.bytes s.told in
    let next = at_next stands start k left taken tail size given s ∙ ap ahead seen.next in
    stopped stands start k left left taken tail size given endings.Clean (Some Done) s refl s.took
    (subst (λ n. EndsSo endings.Clean p n) (sym next) refl)
    (bye_words p (next_at p) next)
    (record { last = p; leads = s.leads; ended = tt; nothing = λ h. absurd (seen.seen h) })

-- what is no command is next, or a cut frame at the end of the input
broken_at : (stands : History → Type 0) (start : Start) (k : ℕ) (left left' taken : Option (List ℕ)) (tail : Tail) (size given place : ℕ) (r : Refusal)
    → HasServed stands start k left taken tail size given → next_in tail ≡ broken r → place ≡ tail.offset → TakesFrom left left' []
    → (cut tail.bytes ≡ short → IfSome left' (λ xs. xs ≡ []))
    → HasStopped stands start k left' taken size given (endings.Broken place) (Some (Refused r))
broken_at stands start k left left' taken tail size given place r s found at nothing seen =
    let p = position s.input tail.bytes s.told in
    let next = at_next stands start k left taken tail size given s ∙ ap ahead found in
    let offset : place ≡ length s.input - length tail.bytes = omega (arith, at, s.size_is, s.held) in
    stopped stands start k left left' taken tail size given (endings.Broken place) (Some (Refused r)) s refl
    (subst (λ xs. TakesFrom start.left left' xs) (append-nil s.input) (taken_on start.left left left' s.input [] s.took nothing))
    (subst (λ n. EndsSo (endings.Broken place) p n) (sym next) (refl, offset))
    (broken_words p (next_at p) place r next)
    (record { last = p; leads = s.leads; ended = tt; nothing = seen })

pub broken_stops : (stands : History → Type 0) (start : Start) (k : ℕ) (left taken : Option (List ℕ)) (tail : Tail) (size given place : ℕ) (r : Refusal)
    → HasServed stands start k left taken tail size given → IsLastAhead tail (broken r) → place ≡ tail.offset
    → HasStopped stands start k left taken size given (endings.Broken place) (Some (Refused r))
broken_stops stands start k left taken tail size given place r s found at =
    broken_at stands start k left left taken tail size given place r s found.next at (nothing_taken left) (λ h. absurd (found.seen h))

-- nothing is left of the source
nothing_more : (left left' : Option (List ℕ)) → TakesFrom left left' [] → IfSome left (λ xs. xs ≡ []) → IfSome left' (λ xs. xs ≡ [])
nothing_more left None took none = tt
nothing_more left (Some xs) took none = subst (λ o. IfSome o (λ ys. ys ≡ [])) took none

pub end_stops : (stands : History → Type 0) (start : Start) (k : ℕ) (left left' taken : Option (List ℕ)) (tail : Tail) (size given : ℕ)
    → HasServed stands start k left taken tail size given → tail.bytes ≡ [] → TakesFrom left left' [] → IfSome left (λ xs. xs ≡ [])
    → HasStopped stands start k left' taken size given endings.Clean None
end_stops stands start k left left' taken tail size given s all took none =
    let p = position s.input tail.bytes s.told in
    let next = next_end p refl all in
    stopped stands start k left left' taken tail size given endings.Clean None s refl
    (subst (λ xs. TakesFrom start.left left' xs) (append-nil s.input) (taken_on start.left left left' s.input [] s.took took))
    (subst (λ n. EndsSo endings.Clean p n) (sym next) refl)
    (end_words p (next_at p) next)
    (record { last = p; leads = s.leads; ended = tt; nothing = λ h. nothing_more left left' took none })

cut_next : (offset : ℕ) (bytes : List ℕ) → bytes ≢ [] → cut bytes ≡ short → front_next offset (front bytes) ≡ broken (BadFrame offset)
unfolding front front_next
cut_next offset [] some h = absurd (some refl)
cut_next offset (b ∷ bytes) some h = ap (λ f. front_next offset (cut_front f)) h

pub cut_stops : (stands : History → Type 0) (start : Start) (k : ℕ) (left left' taken : Option (List ℕ)) (tail : Tail) (size given place : ℕ)
    → HasServed stands start k left taken tail size given → tail.bytes ≢ [] → cut tail.bytes ≡ short → place ≡ tail.offset
    → TakesFrom left left' [] → IfSome left (λ xs. xs ≡ [])
    → HasStopped stands start k left' taken size given (endings.Broken place) (Some (Refused (BadFrame place)))
cut_stops stands start k left left' taken tail size given place s some part at took none =
    broken_at stands start k left left' taken tail size given place (BadFrame place) s
    (cut_next tail.offset tail.bytes some part ∙ ap (λ n. broken (BadFrame n)) (sym at)) at took (λ h. nothing_more left left' took none)

-- the source failed
pub fault_stops : (stands : History → Type 0) (start : Start) (k : ℕ) (left left' taken : Option (List ℕ)) (tail : Tail) (size given : ℕ)
    → HasServed stands start k left taken tail size given → cut tail.bytes ≡ short → HasStopped stands start k left' taken size given endings.SourceFault None
fault_stops stands start k left left' taken tail size given s part =
    let p = position s.input tail.bytes s.told in
    stopped stands start k left left' taken tail size given endings.SourceFault None s refl (begins start.left left s.input s.took) (refl, refl, part) (no_words endings.SourceFault p refl) tt

-- the lane took as much as it may
pub long_stops : (stands : History → Type 0) (start : Start) (k : ℕ) (left taken : Option (List ℕ)) (tail : Tail) (size given : ℕ)
    → HasServed stands start k left taken tail size given → cut tail.bytes ≡ short → HasStopped stands start k left taken size given endings.SourceTooLong None
long_stops stands start k left taken tail size given s part =
    let p = position s.input tail.bytes s.told in
    stopped stands start k left left taken tail size given endings.SourceTooLong None s refl s.took (refl, refl, part) (no_words endings.SourceTooLong p refl) tt

-- ---- the same by what a read gave

-- the end of the input
pub ended_stops : (stands : History → Type 0) (start : Start) (k : ℕ) (left left' taken : Option (List ℕ)) (old new : Input) (given : ℕ) (last : Last)
    → HasServed stands start k left taken old.cutter old.taken given → cut (old.cutter).bytes ≡ short → TakesNothing left left' old new → HasEnded new last
    → HasStopped stands start k left' taken new.taken given last.ending last.words
ended_stops stands start k left left' taken old new given last s part none ended = by_place ended
  where
    at : new.front ≡ (old.cutter).offset
    at = (none.stays).front ∙ sym old.begins

    sized : (e : Ending) (words : Option Reply) → HasStopped stands start k left' taken old.taken given e words → HasStopped stands start k left' taken new.taken given e words
    sized e words h = subst (λ n. HasStopped stands start k left' taken n given e words) (sym (none.stays).taken) h

    by_place : HasEnded new last → HasStopped stands start k left' taken new.taken given last.ending last.words
    by_place (between is last_is) = subst (λ (l : Last). HasStopped stands start k left' taken new.taken given l.ending l.words) (sym last_is)
        (sized endings.Clean None (end_stops stands start k left left' taken old.cutter old.taken given s
        (empty (old.cutter).bytes (let size = s.held in let moved = (none.stays).taken in omega (arith, at, is, size, moved))) none.took none.nothing))
    by_place (within_frame ne last_is) = subst (λ (l : Last). HasStopped stands start k left' taken new.taken given l.ending l.words) (sym last_is)
        (sized (endings.Broken new.front) (Some (Refused (BadFrame new.front))) (cut_stops stands start k left left' taken old.cutter old.taken given new.front s
        (λ h. ne (let size = s.held in let moved = (none.stays).taken in let l = ap length h in omega (arith, at, size, moved, l))) part at none.took none.nothing))

-- the source failed, or the lane took as much as it may
pub source_stops : (stands : History → Type 0) (start : Start) (k : ℕ) (left left' taken : Option (List ℕ)) (old new : Input) (given : ℕ)
    → HasServed stands start k left taken old.cutter old.taken given → cut (old.cutter).bytes ≡ short → Stays old new
    → HasStopped stands start k left' taken new.taken given endings.SourceFault None
source_stops stands start k left left' taken old new given s part stays =
    subst (λ n. HasStopped stands start k left' taken n given endings.SourceFault None) (sym stays.taken) (fault_stops stands start k left left' taken old.cutter old.taken given s part)

pub full_stops : (stands : History → Type 0) (start : Start) (k : ℕ) (left left' taken : Option (List ℕ)) (old new : Input) (given : ℕ)
    → HasServed stands start k left taken old.cutter old.taken given → cut (old.cutter).bytes ≡ short → TakesTooLong left left' old new
    → HasStopped stands start k left' taken new.taken given endings.SourceTooLong None
full_stops stands start k left left' taken old new given s part full =
    subst (λ n. HasStopped stands start k left' taken n given endings.SourceTooLong None) (sym (full.stays).taken)
    (subst (λ l. HasStopped stands start k l taken old.taken given endings.SourceTooLong None) (sym full.same) (long_stops stands start k left taken old.cutter old.taken given s part))
