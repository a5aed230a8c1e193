-- When a file is told to be unreadable.
use Rattle.disk_trait.specs.declared.disk.Disk.{Ghosts}
use Rattle.std.proofs.Common.{◌≡◌, ℕ, false, List, Option, Some, None, Result, Ok, Err, refl, sym, ap, subst, ◌∙◌, arith}
use Rattle.std.specs.Option.{option_map}
use Rattle.port_traits.specs.Readings.{Readings}
use Rattle.disk_trait.specs.declared.disk.DiskError.{DiskError}
use Rattle.disk_trait.specs.declared.disk.DiskError.TheVariants.{NoMemory as DiskMemory, Failed as DiskFailed}
use Rattle.store_types.specs.declared.refusal.Refusal.{Refusal}
use Rattle.store_types.specs.declared.refusal.Refusal.TheVariants.{BadRange, Unreadable, NoMemory, DiskFault, Halted}
use Rattle.store_types.specs.declared.order.TheConstants.{COMMAND_KIND, MEMORY_KIND, FAULT_KIND}
use Rattle.wire_commands.specs.declared.reply.Reply.{Reply}
use Rattle.wire_commands.specs.declared.reply.Reply.TheVariants.{Part, Refused}
use Rattle.store_history.specs.declared.act.Answer.{Answer}
use Rattle.snapshot_files.specs.Parts.{IsPartOf}
use Rattle.core_state.specs.declared.parts.Parts.{Parts}
use Rattle.core_state.specs.declared.state.Core.{Core}
use Rattle.core_state.specs.Begins.{Refuses, short as is_out_of_memory, halted as is_halted, IsReady}
use Rattle.core_state.specs.Settles.{Settles, kind_by, reply_by}
use Rattle.core_state.specs.Unchanged.{is_uncalled}
use Rattle.core_state.specs.Unreadables.{Asked, part_read, TellsUnreadable}

none_some : {A : Type 0} (x : A) → None ≡ Some x → ⊥
none_some x e = cc

apart_memory : (name : List ℕ) → Some (Refused NoMemory) ≡ Some (Refused (Unreadable name)) → ⊥
apart_memory name e = cc

apart_fault : (name : List ℕ) → Some (Refused DiskFault) ≡ Some (Refused (Unreadable name)) → ⊥
apart_fault name e = cc

apart_halted : (place : ℕ) (name : List ℕ) → Some (Refused (Halted place)) ≡ Some (Refused (Unreadable name)) → ⊥
apart_halted place name e = cc

-- ---- what was read

abbrev pub reply_of_part : Result Reply Refusal → Reply
reply_of_part (Ok reply) = reply
reply_of_part (Err refusal) = Refused refusal

abbrev IsRefusalOf : List ℕ → Refusal → Type 0
IsRefusalOf path r = (is_uncalled r ≡ false) × ((name : List ℕ) → r ≡ Unreadable name → name ≡ path)

refusal_is : (path : List ℕ) (r : Refusal) → IsPartOf path (Err r) → IsRefusalOf path r
refusal_is path r h = by_test r h
  where
    ranges : (size : ℕ) (name : List ℕ) → BadRange size ≡ Unreadable name → name ≡ path
    ranges size name e = cc

    names : (found name : List ℕ) → Unreadable found ≡ Unreadable name → name ≡ found
    names found name e = cc

    by_test : (r : Refusal) → IsPartOf path (Err r) → IsRefusalOf path r
    by_test (BadRange size) h = (refl, λ name e. ranges size name e)
    by_test (Unreadable found) h = (refl, λ name e. names found name e ∙ h)
    by_test _ h = absurd h

pub refusal_called : (path : List ℕ) (r : Refusal) → IsPartOf path (Err r) → is_uncalled r ≡ false
refusal_called path r h = (refusal_is path r h).0

-- what is given is a part
part_is : (path : List ℕ) (reply : Reply) → IsPartOf path (Ok reply) → (total : ℕ) × (bytes : List ℕ) × (reply ≡ Part total bytes)
part_is path (Part total bytes) h = (total, bytes, refl)
part_is path _ h = absurd h

part_readable : (path name : List ℕ) (reply : Reply) → IsPartOf path (Ok reply) → Some reply ≡ Some (Refused (Unreadable name)) → ⊥
part_readable path name reply h e = let p = part_is path reply h in no p.0 p.1 (sym (ap (λ r. Some r) p.2) ∙ e)
  where
    no : (total : ℕ) (bytes : List ℕ) → Some (Part total bytes) ≡ Some (Refused (Unreadable name)) → ⊥
    no total bytes e = cc

module _ {D : Type 0} (d : Ghosts D) (disk : D) where
  -- it is told of no file, and none was asked for
  pub tells_other : (asked : Option Asked) (kind : ℕ) (reply : Option Reply) → ((name : List ℕ) → reply ≡ Some (Refused (Unreadable name)) → ⊥) → asked ≡ None
      → TellsUnreadable d disk asked kind reply
  tells_other asked kind reply other is = record {
    named = λ name e. absurd (other name e);
    cause = λ name a e at h. absurd (other name e);
    missing = λ name a k at h g. absurd (none_some a (sym is ∙ at));
  }

  -- it was not done
  pub tells_stopped : (asked : Option Asked) (kind : ℕ) (reply : Option Reply) → ((name : List ℕ) → reply ≡ Some (Refused (Unreadable name)) → ⊥) → (kind ≡ COMMAND_KIND → ⊥)
      → TellsUnreadable d disk asked kind reply
  tells_stopped asked kind reply other is = record {
    named = λ name e. absurd (other name e);
    cause = λ name a e at h. absurd (other name e);
    missing = λ name a k at h g. absurd (is k);
  }

  pub tells_failed : (asked : Option Asked) (e : DiskError) → TellsUnreadable d disk asked (kind_by (Err e)) (Some (reply_by (Err e)))
  tells_failed asked DiskMemory = tells_stopped asked 2 (Some (Refused NoMemory)) (λ name e. apart_memory name e) (λ k. omega (arith, k))
  tells_failed asked DiskFailed = tells_stopped asked 5 (Some (Refused DiskFault)) (λ name e. apart_fault name e) (λ k. omega (arith, k))

  -- the file was read
  pub tells_read : (asked : Option Asked) (a : Asked) (part : Result Reply Refusal) → asked ≡ Some a → IsPartOf a.path part
      → (d.honest disk → part ≡ part_read (d.content disk) a)
      → TellsUnreadable d disk asked 0 (Some (reply_of_part part))
  tells_read asked a (Ok reply) is kind read = record {
    named = λ name e. absurd (part_readable a.path name reply kind e);
    cause = λ name b e at h. absurd (part_readable a.path name reply kind e);
    missing = λ name b k at h g. absurd (apart reply name (read h ∙ ap (part_read (d.content disk)) (same a b (sym is ∙ at)) ∙ g));
  }
    where
      same : (x y : Asked) → Some x ≡ Some y → x ≡ y
      same x y e = cc

      apart : (reply : Reply) (name : List ℕ) → Ok reply ≡ Err (Unreadable name) → ⊥
      apart reply name e = cc
  tells_read asked a (Err r) is kind read = record {
    named = λ name e. ap (option_map (λ x. x.path)) is ∙ ap (λ q. Some q) (sym ((refusal_is a.path r kind).1 name (refused r name e)));
    cause = λ name b e at h. ap (part_read (d.content disk)) (same b a (sym at ∙ is)) ∙ sym (read h) ∙ errs r name (refused r name e);
    missing = λ name b k at h g. ap (λ x. Some (reply_of_part x)) (read h ∙ ap (part_read (d.content disk)) (same a b (sym is ∙ at)) ∙ g);
  }
    where
      same : (x y : Asked) → Some x ≡ Some y → x ≡ y
      same x y e = cc

      refused : (r : Refusal) (name : List ℕ) → Some (Refused r) ≡ Some (Refused (Unreadable name)) → r ≡ Unreadable name
      refused r name e = cc

      errs : (r : Refusal) (name : List ℕ) → r ≡ Unreadable name → ◌≡◌ {A = Result Reply Refusal} (Err r) (Err (Unreadable name))
      errs r name e = ap (λ x. Err x) e

-- ---- acts

-- an act that is refused before it is done
pub tells_refused : {D E C : Type 0} (d : Ghosts D) (readings : C → Option Readings) (old new : Core D E C) (lane : ℕ) (disk : D) (asked : Option Asked) (answer : Answer)
    → Refuses d readings old new lane answer → TellsUnreadable d disk asked (answer.entry).kind answer.reply
tells_refused d readings old new lane disk asked answer (is_out_of_memory is) =
    let kind : (answer.entry).kind ≡ MEMORY_KIND = ap (λ x. x.kind) (is.entered).entry in
    tells_stopped d disk asked _ answer.reply (λ name e. apart_memory name (sym (is.entered).reply_is ∙ e)) (λ k. absurd (omega (arith, k, kind)))
tells_refused d readings old new lane disk asked answer (is_halted is) =
    let kind : (answer.entry).kind ≡ FAULT_KIND = ap (λ x. x.kind) (is.entered).entry in
    tells_stopped d disk asked _ answer.reply (λ name e. apart_halted is.first name (sym (is.entered).reply_is ∙ e)) (λ k. absurd (omega (arith, k, kind)))

-- an act that was done, as its command tells
pub tells_done : {D E C : Type 0} (d : Ghosts D) (readings : C → Option Readings) (old mid acted new : Core D E C) (lane moment : ℕ) (asked : Parts D → Option Asked) (result : Result Reply DiskError) (answer : Answer)
    → IsReady readings old mid lane moment → TellsUnreadable d (mid.parts).disk (asked mid.parts) (kind_by result) (Some (reply_by result)) → Settles d acted new lane moment result answer
    → TellsUnreadable d (old.parts).disk (asked old.parts) (answer.entry).kind answer.reply
tells_done d readings old mid acted new lane moment asked result answer ready tells e =
    subst (λ r. TellsUnreadable d (old.parts).disk (asked old.parts) (answer.entry).kind r) (sym e.reply_is)
    (subst (λ x. TellsUnreadable d (old.parts).disk (asked old.parts) x.kind (Some (reply_by result))) (sym e.entry)
    (subst (λ p. TellsUnreadable d p.disk (asked p) (kind_by result) (Some (reply_by result))) (ready.begun).parts tells))
