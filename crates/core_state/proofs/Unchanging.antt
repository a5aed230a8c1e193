-- A refused act leaves all as it was.
use Rattle.disk_trait.specs.declared.disk.Disk.{Ghosts}
use Rattle.std.proofs.Common.{◌≡◌, ℕ, Option, Some, None, Result, IfSome, sym, ap, subst, ◌∙◌}
use Rattle.port_traits.specs.Readings.{Readings}
use Rattle.disk_trait.specs.declared.disk.DiskError.{DiskError}
use Rattle.store_types.specs.declared.refusal.Refusal.{Refusal}
use Rattle.store_types.specs.declared.refusal.Refusal.TheVariants.{NoMemory, Halted}
use Rattle.wire_commands.specs.declared.reply.Reply.{Reply}
use Rattle.wire_commands.specs.declared.reply.Reply.TheVariants.{Done, Base, Part, Data, Number, Listing, Files as FileRows, Keys, Marks, Verified, Collected, Refused}
use Rattle.store_history.specs.declared.act.Answer.{Answer}
use Rattle.core_state.specs.declared.parts.Parts.{Parts}
use Rattle.core_state.specs.declared.state.Core.{Core}
use Rattle.core_state.specs.Settles.{Settles, reply_by}
use Rattle.core_state.specs.Begins.{IsShort, Refuses, short, halted, IsReady}
use Rattle.core_state.specs.Unchanged.{SamePlain, LeavesAll, Unchanged}

module _ {D : Type 0} (g : Ghosts D) where
  -- nothing has changed
  pub leaves_same : (old new : Parts D) (r : Refusal) → new.disk ≡ old.disk → SamePlain old new → LeavesAll g old new r
  leaves_same old new r d kept = record { kept = kept; uncalled = λ _. d; disk = λ _ _. ap g.content d }

  pub same_unchanged : (old new : Parts D) (reply : Reply) → new ≡ old → Unchanged g old new reply
  same_unchanged old new Done is = tt
  same_unchanged old new (Base snapshot) is = tt
  same_unchanged old new (Part total bytes) is = tt
  same_unchanged old new (Data bytes) is = tt
  same_unchanged old new (Number number) is = tt
  same_unchanged old new (Listing rows) is = tt
  same_unchanged old new (FileRows rows) is = tt
  same_unchanged old new (Keys snapshots) is = tt
  same_unchanged old new (Marks rows) is = tt
  same_unchanged old new (Verified files entries bytes faults) is = tt
  same_unchanged old new (Collected start cutoff used pending removed) is = tt
  same_unchanged old new (Refused r) is = leaves_same old new r (ap (λ p. p.disk) is) (record { catalogue = ap (λ p. p.catalogue.listed) is; sessions = ap (λ p. p.sessions.items) is; locks = ap (λ p. p.locks) is })

-- ---- acts

pub short_unchanged : {D E C : Type 0} (d : Ghosts D) (readings : C → Option Readings) (old new : Core D E C) (lane : ℕ) (answer : Answer)
    → IsShort d readings old new lane answer → IfSome answer.reply (Unchanged d old.parts new.parts)
short_unchanged d readings old new lane answer is =
    subst (λ r. IfSome r (Unchanged d old.parts new.parts)) (sym (is.entered).reply_is)
    (same_unchanged d old.parts new.parts (Refused NoMemory) ((is.entered).parts ∙ (is.begun).parts))

pub refused_unchanged : {D E C : Type 0} (d : Ghosts D) (readings : C → Option Readings) (old new : Core D E C) (lane : ℕ) (answer : Answer)
    → Refuses d readings old new lane answer → IfSome answer.reply (Unchanged d old.parts new.parts)
refused_unchanged d readings old new lane answer (short is) = short_unchanged d readings old new lane answer is
refused_unchanged d readings old new lane answer (halted is) =
    subst (λ r. IfSome r (Unchanged d old.parts new.parts)) (sym (is.entered).reply_is)
    (same_unchanged d old.parts new.parts (Refused (Halted is.first)) ((is.entered).parts ∙ (is.begun).parts))

-- nothing has changed before or since
pub unchanged_between : {D : Type 0} (d : Ghosts D) (old mid acted new : Parts D) (r : Reply) (reply : Option Reply)
    → mid ≡ old → new ≡ acted → reply ≡ Some r → Unchanged d mid acted r → IfSome reply (Unchanged d old new)
unchanged_between d old mid acted new r reply before since is unchanged =
    subst (λ x. IfSome x (Unchanged d old new)) (sym is)
    (subst (λ p. Unchanged d old p r) (sym since) (subst (λ p. Unchanged d p acted r) before unchanged))

pub done_unchanged : {D E C : Type 0} (d : Ghosts D) (readings : C → Option Readings) (old mid acted new : Core D E C) (lane moment : ℕ) (result : Result Reply DiskError) (answer : Answer)
    → IsReady readings old mid lane moment → Unchanged d mid.parts acted.parts (reply_by result) → Settles d acted new lane moment result answer
    → IfSome answer.reply (Unchanged d old.parts new.parts)
done_unchanged d readings old mid acted new lane moment result answer ready unchanged e =
    unchanged_between d old.parts mid.parts acted.parts new.parts (reply_by result) answer.reply (ready.begun).parts e.parts e.reply_is unchanged

pub refused_parts : {D E C : Type 0} (d : Ghosts D) (readings : C → Option Readings) (old new : Core D E C) (lane : ℕ) (answer : Answer)
    → Refuses d readings old new lane answer → new.parts ≡ old.parts
refused_parts d readings old new lane answer (short is) = (is.entered).parts ∙ (is.begun).parts
refused_parts d readings old new lane answer (halted is) = (is.entered).parts ∙ (is.begun).parts

-- ---- a lane's end that was done

pub untold_unchanged : {D : Type 0} (d : Ghosts D) (old new : Parts D) (reply : Option Reply) → reply ≡ None → IfSome reply (Unchanged d old new)
untold_unchanged d old new reply is = subst (λ r. IfSome r (Unchanged d old new)) (sym is) tt
