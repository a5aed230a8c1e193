-- What acts leave of a lane's reserve.
use Rattle.disk_trait.specs.declared.disk.Disk.{Ghosts}
use Rattle.std.specs.Prelude.{slice_index_or}
use Rattle.std.proofs.Common.{◌≡◌, ◌<◌, ◌≤◌, ◌+◌, ℕ, Bool, true, false, ◌&&◌, ◌==◌, Option, Some, None, Result, Ok, Err, inl, inr, refl, sym, ap, subst, ◌∙◌, arith}
use Rattle.port_traits.specs.Readings.{Readings}
use Rattle.disk_trait.specs.declared.disk.DiskError.{DiskError}
use Rattle.disk_trait.specs.declared.disk.DiskError.TheVariants.{NoMemory as DiskMemory, Failed as DiskFailed}
use Rattle.wire_commands.specs.declared.command.Command.TheVariants as commands
use Rattle.store_types.specs.declared.refusal.Refusal.TheVariants.{DiskFault}
use Rattle.store_types.specs.declared.order.TheConstants.{MEMORY_KIND}
use Rattle.wire_commands.specs.declared.reply.Reply.{Reply}
use Rattle.wire_commands.specs.declared.reply.Reply.TheVariants.{Refused}
use Rattle.store_history.specs.declared.act.Act.{Act}
use Rattle.store_history.specs.declared.act.Act.TheVariants as acts
use Rattle.store_history.specs.declared.act.Answer.{Answer}
use Rattle.store_history.specs.Acts.{sweeping, ending, class_of}
use Rattle.core_state.specs.declared.journal.Journal.{Journal}
use Rattle.core_state.specs.declared.kept.Session.{Session}
use Rattle.core_state.specs.declared.kept.Session.TheVariants.{Idle, Writer, Reader}
use Rattle.core_state.specs.declared.state.Core.{Core}
use Rattle.core_state.specs.Closing.{is_writer, is_reader, closes, closes_by, is_closing, end_entries, ends_by, HasClosed}
use Rattle.core_state.specs.Wanted.{session_at}
use Rattle.core_state.specs.Entering.{OthersHold, NoneLost, FillsFirst, StaysWhole, Enters, held_by}
use Rattle.core_state.specs.Collectors.{is_cut}
use Rattle.core_state.specs.Reserved.{CanEnd, HasRoom, Reserved, KeepsReserve, KeepsSpare, EndKeeps, StepKeeps, Keeps}
use Rattle.core_state.specs.Settles.{IsEntered, Settles, kind_by}
use Rattle.core_state.specs.Begins.{IsBegun, IsShort, Refuses, short, halted, IsReady}
use Rattle.core_state.proofs.Answering.{and_second}

true_false : true ≡ false → ⊥
true_false e = cc

-- ---- what a lane's end may take

ends_two : (fault : Option ℕ) (x : Session) → end_entries fault x ≤ 2
ends_two None Idle = omega arith
ends_two None (Writer w) = omega arith
ends_two None (Reader r) = omega arith
ends_two (Some n) x = omega arith

ends_one : (fault : Option ℕ) (x : Session) → 1 ≤ end_entries fault x
ends_one None Idle = omega arith
ends_one None (Writer w) = omega arith
ends_one None (Reader r) = omega arith
ends_one (Some n) x = omega arith

-- a whole reserve is what a lane must have
pub whole_reserved : {D E C : Type 0} (core : Core D E C) (lane : ℕ) → 3 ≤ held_by core.journal lane → Reserved core lane
whole_reserved core lane whole = let two = ends_two core.fault (session_at core.parts lane) in omega (arith, two, whole)

-- an entry is to be had
pub reserved_room : {D E C : Type 0} (core : Core D E C) (lane : ℕ) → Reserved core lane → HasRoom core lane
reserved_room core lane reserved = inr (omega (arith, reserved))

pub can_end_room : {D E C : Type 0} (core : Core D E C) (lane : ℕ) → CanEnd core lane → HasRoom core lane
can_end_room core lane can = let one = ends_one core.fault (session_at core.parts lane) in inr (omega (arith, can, one))

ends_idle : (fault : Option ℕ) (x : Session) → x ≡ Idle → end_entries fault x ≡ 1
ends_idle None x is = ap (end_entries None) is
ends_idle (Some n) x is = refl

ends_faulted : (fault : Option ℕ) (n : ℕ) (x : Session) → fault ≡ Some n → end_entries fault x ≡ 1
ends_faulted fault n x is = ap (λ f. end_entries f x) is

ends_busy : (fault : Option ℕ) (x : Session) → fault ≡ None → (x ≡ Idle → ⊥) → end_entries fault x ≡ 2
ends_busy fault Idle is ne = absurd (ne refl)
ends_busy fault (Writer w) is ne = ap (λ f. end_entries f (Writer w)) is
ends_busy fault (Reader r) is ne = ap (λ f. end_entries f (Reader r)) is

writer_two : (x : Session) → is_writer x ≡ true → end_entries None x ≡ 2
writer_two Idle h = absurd (true_false (sym h))
writer_two (Writer w) h = refl
writer_two (Reader r) h = absurd (true_false (sym h))

reader_two : (x : Session) → is_reader x ≡ true → end_entries None x ≡ 2
reader_two Idle h = absurd (true_false (sym h))
reader_two (Writer w) h = absurd (true_false (sym h))
reader_two (Reader r) h = refl

-- an act that ends a session stands before an end that may meet a fault
closing_two : (fault : Option ℕ) (act : Act) (x : Session) → closes_by fault act x ≡ true → end_entries fault x ≡ 2
closing_two (Some n) act x h = absurd (true_false (sym h))
closing_two None (acts.Plain commands.Abort) x h = writer_two x h
closing_two None (acts.Plain commands.CloseReader) x h = reader_two x h
closing_two None act x h = absurd (true_false (sym h))

closes_true : (fault : Option ℕ) (act : Act) (x : Session) → closes_by fault act x ≡ true → closes act x ≡ true
closes_true None act x h = h
closes_true (Some n) act x h = absurd (true_false (sym h))

-- the clock was read, and the act ends the lane's session
pub closing_before : {D E C : Type 0} (old mid : Core D E C) (lane : ℕ) (act : Act) → mid.parts ≡ old.parts → is_closing old lane act ≡ true → closes act (session_at mid.parts lane) ≡ true
closing_before old mid lane act same h =
    ap (λ p. closes act (slice_index_or p.sessions.items lane Idle)) same ∙ closes_true old.fault act (session_at old.parts lane) h

ends_same : {D E C : Type 0} (old new : Core D E C) (lane : ℕ) → new.parts ≡ old.parts → new.fault ≡ old.fault → ends_by new lane ≡ ends_by old lane
ends_same old new lane parts fault =
    ap (λ p. end_entries new.fault (slice_index_or p.sessions.items lane Idle)) parts ∙ ap (λ f. end_entries f (session_at old.parts lane)) fault

-- ---- the entry

one_by : (old mid new : Journal) (lane : ℕ) (b : Bool) → held_by old lane ≤ held_by mid lane → Enters mid new lane b → held_by old lane ≤ held_by new lane + 1
one_by old mid new lane true more e = let same = (e.uses).1 in omega (arith, more, same)
one_by old mid new lane false more e = let same = (e.uses).1 in omega (arith, more, same)

others_by : (old mid new : Journal) (lane : ℕ) (b : Bool) → OthersHold old mid lane → Enters mid new lane b → OthersHold old new lane
others_by old mid new lane b others e = λ other ne. e.others other ne ∙ others other ne

spare_by : (old mid new : Journal) (lane : ℕ) (b : Bool) → NoneLost old mid lane → StaysWhole old mid lane → Enters mid new lane b → KeepsSpare old new lane
spare_by old mid new lane true lost whole e three some = absurd (let none = (e.uses).0 in let same = whole three in omega (arith, none, same, lost, some))
spare_by old mid new lane false lost whole e three some = let one = (e.uses).0 in let held = (e.uses).1 in let same = whole three in
    (omega (arith, held, same, three), omega (arith, one, same, lost))

-- a spare entry is used where there is one, and the reserve is whole
by_spare : {D E C : Type 0} (old new : Core D E C) (mid : Journal) (lane : ℕ) (closing b c : Bool) (answer : Answer)
    → held_by old.journal lane ≤ held_by mid lane → OthersHold old.journal mid lane → 3 ≤ held_by mid lane → 0 < mid.spare → KeepsSpare old.journal new.journal lane → answer.last ≡ b && c → Enters mid new.journal lane b
    → KeepsReserve old new lane closing answer
by_spare old new mid lane closing true c answer more others whole spare keeps is e = absurd (let z = (e.uses).0 in omega (arith, z, spare))
by_spare old new mid lane closing false c answer more others whole spare keeps is e = let same = (e.uses).1 in let two = ends_two new.fault (session_at new.parts lane) in record {
  one = one_by old.journal mid new.journal lane false more e;
  kept = λ _ _. omega (arith, same, whole, two);
  left = λ _. omega (arith, same, whole, two);
  spent = (λ yes. absurd (true_false (sym yes ∙ is)), λ both. absurd (let less = both.1 in omega (arith, more, same, less)));
  filled = λ _ _. omega (arith, same, whole);
  closed = λ _ _. omega (arith, same, whole, two);
  spare = keeps;
  others = others_by old.journal mid new.journal lane false others e;
}

-- want of memory: an entry of the reserve, of which nothing was put there before, is the last
by_want : {D E C : Type 0} (old new : Core D E C) (mid : Journal) (lane : ℕ) (closing b : Bool) (answer : Answer)
    → held_by old.journal lane ≤ held_by mid lane → FillsFirst old.journal mid lane → OthersHold old.journal mid lane
    → ends_by new lane ≡ ends_by old lane → KeepsSpare old.journal new.journal lane → (closing ≡ true → (answer.entry).kind ≡ MEMORY_KIND → ⊥) → (answer.entry).kind ≡ MEMORY_KIND → answer.last ≡ b → Enters mid new.journal lane b
    → KeepsReserve old new lane closing answer
by_want old new mid lane closing true answer more filled others ends keeps unless two is e = record {
  one = one_by old.journal mid new.journal lane true more e;
  kept = λ no reserved. absurd (true_false (sym is ∙ no));
  left = λ reserved. let less = spends filled in omega (arith, ends, reserved, less);
  spent = (λ _. (two, spends filled), λ _. is);
  filled = λ _ other. absurd (other two);
  closed = λ closes _. absurd (unless closes two);
  spare = keeps;
  others = others_by old.journal mid new.journal lane true others e;
}
  where
    spends : FillsFirst old.journal mid lane → held_by new.journal lane + 1 ≡ held_by old.journal lane
    spends (inl held) = (e.uses).1 ∙ held
    spends (inr spare) = absurd (let z = (e.uses).0 in omega (arith, z, spare))
by_want old new mid lane closing false answer more filled others ends keeps unless two is e = let same = (e.uses).1 in record {
  one = one_by old.journal mid new.journal lane false more e;
  kept = λ _ reserved. omega (arith, more, same, ends, reserved);
  left = λ reserved. omega (arith, more, same, ends, reserved);
  spent = (λ yes. absurd (true_false (sym yes ∙ is)), λ both. absurd (let less = both.1 in omega (arith, more, same, less)));
  filled = λ _ other. absurd (other two);
  closed = λ closes _. absurd (unless closes two);
  spare = keeps;
  others = others_by old.journal mid new.journal lane false others e;
}

and_two : (b : Bool) → b && (2 == 2) ≡ b
and_two true = refl
and_two false = refl

pub short_keeps : {D E C : Type 0} (d : Ghosts D) (readings : C → Option Readings) (old new : Core D E C) (lane : ℕ) (closing : Bool) (answer : Answer)
    → IsShort d readings old new lane answer → (closing ≡ true → (answer.entry).kind ≡ MEMORY_KIND → ⊥) → KeepsReserve old new lane closing answer
short_keeps d readings old new lane closing answer is unless = let b = is.begun in let e = is.entered in
    by_want old new (is.between).journal lane closing e.is_held answer b.more b.filled b.others
    (ends_same old new lane (e.parts ∙ b.parts) (e.fault ∙ b.fault)) (spare_by old.journal (is.between).journal new.journal lane e.is_held b.none_lost b.whole e.room) unless (ap (λ x. x.kind) e.entry) (e.last_held ∙ and_two e.is_held) e.room

pub refused_keeps : {D E C : Type 0} (d : Ghosts D) (readings : C → Option Readings) (old new : Core D E C) (lane : ℕ) (closing : Bool) (answer : Answer)
    → Refuses d readings old new lane answer → (closing ≡ true → (answer.entry).kind ≡ MEMORY_KIND → ⊥) → KeepsReserve old new lane closing answer
refused_keeps d readings old new lane closing answer (short is) unless = short_keeps d readings old new lane closing answer is unless
refused_keeps d readings old new lane closing answer (halted is) unless = let b = is.begun in let e = is.entered in
    by_spare old new (is.between).journal lane closing e.is_held (5 == 2) answer b.more b.others is.whole is.spare
    (spare_by old.journal (is.between).journal new.journal lane e.is_held b.none_lost b.whole e.room) e.last_held e.room

-- an act that was done and ends no session
filled_keeps : {D E C : Type 0} (d : Ghosts D) (readings : C → Option Readings) (old mid acted new : Core D E C) (lane moment : ℕ) (closing : Bool) (result : Result Reply DiskError) (answer : Answer)
    → IsReady readings old mid lane moment → acted.journal ≡ mid.journal → (3 ≤ held_by mid.journal lane) × (0 < (mid.journal).spare)
    → Settles d acted new lane moment result answer → KeepsReserve old new lane closing answer
filled_keeps d readings old mid acted new lane moment closing result answer ready same filled e =
    let b = ready.begun in let entered = subst (λ j. Enters j new.journal lane e.is_held) same e.room in
    by_spare old new mid.journal lane closing e.is_held (kind_by result == 2) answer b.more b.others filled.0 filled.1
    (spare_by old.journal mid.journal new.journal lane e.is_held b.none_lost b.whole entered) e.last_held entered

-- a collector opened
pub opened_keeps : {D E C : Type 0} (d : Ghosts D) (readings : C → Option Readings) (old mid acted new : Core D E C) (lane moment : ℕ) (closing : Bool) (answer : Answer)
    → IsReady readings old mid lane moment → acted.journal ≡ mid.journal → (3 ≤ held_by mid.journal lane) × (0 < (mid.journal).spare)
    → IsEntered d acted new lane moment 3 None answer → KeepsReserve old new lane closing answer
opened_keeps d readings old mid acted new lane moment closing answer ready same filled e =
    let b = ready.begun in let entered = subst (λ j. Enters j new.journal lane e.is_held) same e.room in
    by_spare old new mid.journal lane closing e.is_held false answer b.more b.others filled.0 filled.1
    (spare_by old.journal mid.journal new.journal lane e.is_held b.none_lost b.whole entered) e.last_held entered

-- an act of any kind was entered, with a whole reserve
pub entered_keeps : {D E C : Type 0} (d : Ghosts D) (readings : C → Option Readings) (old mid acted new : Core D E C) (lane moment n : ℕ) (reply : Option Reply) (closing : Bool) (answer : Answer)
    → IsReady readings old mid lane moment → acted.journal ≡ mid.journal → (3 ≤ held_by mid.journal lane) × (0 < (mid.journal).spare)
    → IsEntered d acted new lane moment n reply answer → KeepsReserve old new lane closing answer
entered_keeps d readings old mid acted new lane moment n reply closing answer ready same filled e =
    let b = ready.begun in let entered = subst (λ j. Enters j new.journal lane e.is_held) same e.room in
    by_spare old new mid.journal lane closing e.is_held (n == 2) answer b.more b.others filled.0 filled.1
    (spare_by old.journal mid.journal new.journal lane e.is_held b.none_lost b.whole entered) e.last_held entered

-- what the lane's end may take after its session has ended
closed_one : {D E C : Type 0} (d : Ghosts D) (acted new : Core D E C) (lane moment : ℕ) (result : Result Reply DiskError) (answer : Answer)
    → Settles d acted new lane moment result answer → HasClosed acted.parts lane result → (ends_by new lane ≡ 1) × ((answer.entry).kind ≡ MEMORY_KIND → ⊥)
closed_one d acted new lane moment (Ok reply) answer e closed =
    (ends_idle new.fault (session_at new.parts lane) (ap (λ p. slice_index_or p.sessions.items lane Idle) e.parts ∙ closed), λ is. let zero = sym (ap (λ x. x.kind) e.entry) ∙ is in absurd (omega (arith, zero)))
closed_one d acted new lane moment (Err DiskMemory) answer e closed = absurd closed
closed_one d acted new lane moment (Err DiskFailed) answer e closed =
    (ends_faulted new.fault _ (session_at new.parts lane) e.fault, λ is. let five = sym (ap (λ x. x.kind) e.entry) ∙ is in absurd (omega (arith, five)))

-- its entry may be one of the reserve, which isn't the last
by_closing : {D E C : Type 0} (old new : Core D E C) (mid : Journal) (lane n : ℕ) (b : Bool) (answer : Answer)
    → held_by old.journal lane ≤ held_by mid lane → OthersHold old.journal mid lane → ends_by old lane ≡ 2 → ends_by new lane ≡ 1
    → KeepsSpare old.journal new.journal lane → ((answer.entry).kind ≡ MEMORY_KIND → ⊥) → (answer.entry).kind ≡ n → answer.last ≡ b && (n == 2) → Enters mid new.journal lane b
    → KeepsReserve old new lane true answer
by_closing old new mid lane n b answer more others before after keeps other kind is e = let one = one_by old.journal mid new.journal lane b more e in record {
  one = one;
  kept = λ _ reserved. omega (arith, one, before, after, reserved);
  left = λ reserved. omega (arith, one, before, after, reserved);
  spent = (λ yes. absurd (other (kind ∙ and_second b n (sym is ∙ yes))), λ both. absurd (other both.0));
  filled = λ not _. absurd (true_false not);
  closed = λ _ can. omega (arith, one, before, after, can);
  spare = keeps;
  others = others_by old.journal mid new.journal lane b others e;
}

pub done_keeps : {D E C : Type 0} (d : Ghosts D) (readings : C → Option Readings) (old mid acted new : Core D E C) (lane moment : ℕ) (act : Act) (result : Result Reply DiskError) (answer : Answer)
    → IsReady readings old mid lane moment → acted.journal ≡ mid.journal
    → (is_closing old lane act ≡ false → (3 ≤ held_by mid.journal lane) × (0 < (mid.journal).spare))
    → (is_closing old lane act ≡ true → HasClosed acted.parts lane result)
    → Settles d acted new lane moment result answer
    → KeepsReserve old new lane (is_closing old lane act) answer
done_keeps d readings old mid acted new lane moment act result answer ready same filled closed e = by_test (is_closing old lane act) refl
  where
    by_test : (b : Bool) → is_closing old lane act ≡ b → KeepsReserve old new lane b answer
    by_test false is = filled_keeps d readings old mid acted new lane moment false result answer ready same (filled is) e
    by_test true is =
        let one = closed_one d acted new lane moment result answer e (closed is) in
        let b = ready.begun in
        let entered = subst (λ j. Enters j new.journal lane e.is_held) same e.room in
        by_closing old new mid.journal lane (kind_by result) e.is_held answer b.more b.others
        (closing_two old.fault act (session_at old.parts lane) is) one.0 (spare_by old.journal mid.journal new.journal lane e.is_held b.none_lost b.whole entered)
        one.1 (ap (λ x. x.kind) e.entry) e.last_held entered

-- an act that ends a session is never answered by want of memory
pub closing_kind : {D E C : Type 0} (d : Ghosts D) (acted new : Core D E C) (lane moment : ℕ) (result : Result Reply DiskError) (answer : Answer)
    → HasClosed acted.parts lane result → Settles d acted new lane moment result answer → (answer.entry).kind ≡ MEMORY_KIND → ⊥
closing_kind d acted new lane moment result answer closed e = (closed_one d acted new lane moment result answer e closed).1

-- ---- a lane's end

pub ended_keeps : {D E C : Type 0} (d : Ghosts D) (readings : C → Option Readings) (old mid acted new : Core D E C) (lane moment : ℕ) (answer : Answer)
    → mid.journal ≡ old.journal → acted.journal ≡ mid.journal → IsEntered d acted new lane moment 6 None answer → EndKeeps old new lane answer
ended_keeps d readings old mid acted new lane moment answer before same e = let entered = subst (λ j. Enters j new.journal lane e.is_held) (same ∙ before) e.room in record {
  one = one_by old.journal old.journal new.journal lane e.is_held (omega arith) entered;
  left = λ _ five. absurd (let kind = sym (ap (λ x. x.kind) e.entry) ∙ five in omega (arith, kind));
  idle = λ _. ap (λ x. x.kind) e.entry;
  spare = spare_by old.journal old.journal new.journal lane e.is_held (omega arith) (λ three. refl) entered;
  others = entered.others;
}

pub end_failed_keeps : {D E C : Type 0} (d : Ghosts D) (readings : C → Option Readings) (old mid acted new : Core D E C) (lane moment : ℕ) (answer : Answer)
    → old.fault ≡ None → (session_at old.parts lane ≡ Idle → ⊥) → mid.journal ≡ old.journal → acted.journal ≡ mid.journal
    → (first : ℕ) → acted.fault ≡ Some first → IsEntered d acted new lane moment 5 (Some (Refused DiskFault)) answer → EndKeeps old new lane answer
end_failed_keeps d readings old mid acted new lane moment answer none busy before same first fault e =
    let entered = subst (λ j. Enters j new.journal lane e.is_held) (same ∙ before) e.room in
    let one = one_by old.journal old.journal new.journal lane e.is_held (omega arith) entered in
    record {
      one = one;
      left = λ can _. let two = ends_busy old.fault (session_at old.parts lane) none busy in let after = ends_faulted new.fault first (session_at new.parts lane) (e.fault ∙ fault) in omega (arith, one, two, after, can);
      idle = λ is. absurd (busy is);
      spare = spare_by old.journal old.journal new.journal lane e.is_held (omega arith) (λ three. refl) entered;
      others = entered.others;
    }

-- ---- an act of a collector after its start

-- it is no end of a collector that was ended early
uncut_keeps : {D E C : Type 0} (old new : Core D E C) (lane : ℕ) (answer : Answer) → is_cut lane old.collector ≡ false → KeepsReserve old new lane false answer → StepKeeps old new lane answer
uncut_keeps old new lane answer uncut keeps = record {
  one = keeps.one;
  spent = keeps.spent;
  filled = λ _. keeps.filled refl;
  ends = λ cut. absurd (true_false (sym cut ∙ uncut));
  spare = keeps.spare;
  others = keeps.others;
}

-- the reserve was filled up before it was entered
pub step_keeps_filled : {D E C : Type 0} (d : Ghosts D) (readings : C → Option Readings) (old mid acted new : Core D E C) (lane moment n : ℕ) (reply : Option Reply) (answer : Answer)
    → IsBegun readings old mid lane moment → acted.journal ≡ mid.journal → (3 ≤ held_by mid.journal lane) × (0 < (mid.journal).spare)
    → is_cut lane old.collector ≡ false → IsEntered d acted new lane moment n reply answer → StepKeeps old new lane answer
step_keeps_filled d readings old mid acted new lane moment n reply answer b same filled uncut e =
    let entered = subst (λ j. Enters j new.journal lane e.is_held) same e.room in
    uncut_keeps old new lane answer uncut
    (by_spare old new mid.journal lane false e.is_held (n == 2) answer b.more b.others filled.0 filled.1
    (spare_by old.journal mid.journal new.journal lane e.is_held b.none_lost b.whole entered) e.last_held entered)

-- memory was wanting before it was begun
pub step_keeps_short : {D E C : Type 0} (d : Ghosts D) (readings : C → Option Readings) (old new : Core D E C) (lane : ℕ) (answer : Answer)
    → is_cut lane old.collector ≡ false → IsShort d readings old new lane answer → StepKeeps old new lane answer
step_keeps_short d readings old new lane answer uncut is = uncut_keeps old new lane answer uncut (short_keeps d readings old new lane false answer is (λ closes _. true_false (sym closes)))

-- nothing was filled up: the end of a collector that was ended early
pub step_keeps_cut : {D E C : Type 0} (d : Ghosts D) (old acted new : Core D E C) (lane moment n : ℕ) (reply : Option Reply) (answer : Answer)
    → acted.journal ≡ old.journal → (n ≡ 2 → ⊥) → is_cut lane old.collector ≡ true → IsEntered d acted new lane moment n reply answer → StepKeeps old new lane answer
step_keeps_cut d old acted new lane moment n reply answer same other cut e =
    let entered = subst (λ j. Enters j new.journal lane e.is_held) same e.room in
    let kind : (answer.entry).kind ≡ n = ap (λ x. x.kind) e.entry in record {
      one = one_by old.journal old.journal new.journal lane e.is_held (omega arith) entered;
      spent = (λ yes. absurd (other (and_second e.is_held n (sym e.last_held ∙ yes))), λ both. absurd (other (sym kind ∙ both.0)));
      filled = λ uncut. absurd (true_false (sym cut ∙ uncut));
      ends = λ _ two. other (sym kind ∙ two);
      spare = spare_by old.journal old.journal new.journal lane e.is_held (omega arith) (λ three. refl) entered;
      others = entered.others;
    }

-- ---- any act

pub no_end_keeps : {D E C : Type 0} (old new : Core D E C) (lane : ℕ) (act : Act) (answer : Answer) → (class_of act ≡ ending → ⊥) → (class_of act ≡ sweeping → ⊥) → KeepsReserve old new lane (is_closing old lane act) answer → Keeps act old new lane answer
no_end_keeps old new lane acts.Step answer other no_step h = absurd (no_step refl)
no_end_keeps old new lane acts.End answer other no_step h = absurd (other refl)
no_end_keeps old new lane act answer other no_step h = h
