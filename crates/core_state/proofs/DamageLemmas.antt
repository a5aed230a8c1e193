-- When a chunk is told to be damaged.
use Rattle.std.proofs.Common.{◌≡◌, ℕ, Option, Some, None, Result, Ok, Err, IsErrAnd, sym, ap, subst, ◌∙◌, arith}
use Rattle.disk_trait.specs.declared.disk.Disk.{Ghosts}
use Rattle.disk_trait.specs.Files.{Files}
use Rattle.disk_trait.specs.declared.disk.DiskError.{DiskError}
use Rattle.disk_trait.specs.declared.disk.DiskError.TheVariants.{NoMemory as DiskMemory, Failed as DiskFailed}
use Rattle.store_types.specs.declared.names.Digest32.{Digest32}
use Rattle.store_types.specs.declared.refusal.ChunkFault.{ChunkFault}
use Rattle.store_types.specs.declared.refusal.Refusal.{Refusal}
use Rattle.store_types.specs.declared.refusal.Refusal.TheVariants.{Damaged, NoMemory, DiskFault, Halted}
use Rattle.store_types.specs.declared.order.TheConstants.{COMMAND_KIND}
use Rattle.wire_commands.specs.declared.reply.Reply.{Reply}
use Rattle.wire_commands.specs.declared.reply.Reply.TheVariants.{Refused}
use Rattle.store_stops.specs.Stops.{IfRefused}
use Rattle.store_stops.specs.declared.stop.Stop.{Stop}
use Rattle.store_stops.specs.declared.stop.Stop.TheVariants as kinds
use Rattle.core_state.specs.Damages.{TellsDamaged}
use Rattle.core_state.specs.Settles.{kind_by, reply_by}
use Rattle.core_state.specs.Stops.{told}

-- ---- replies

-- it tells of no damage
abbrev pub IsUndamaged : Option Reply → Type 0
IsUndamaged reply = (digest : Digest32) (found : ChunkFault) → reply ≡ Some (Refused (Damaged digest found)) → ⊥

pub memory_undamaged : IsUndamaged (Some (Refused NoMemory))
memory_undamaged digest found e = cc

pub fault_undamaged : IsUndamaged (Some (Refused DiskFault))
fault_undamaged digest found e = cc

pub halted_undamaged : (place : ℕ) → IsUndamaged (Some (Refused (Halted place)))
halted_undamaged place digest found e = cc

-- ---- what is told

nothing_first : {A : Type 0} (x : A) → None ≡ Some x → ⊥
nothing_first x e = cc

-- an act that stopped
pub by_stopped : {D : Type 0} (g : Ghosts D) (disk : D) (may : Digest32 → Type 0) (damage : Files → Option (Digest32 × ChunkFault)) (stop : Stop) (result : Result Reply Stop) → IsErrAnd result (λ x. x ≡ stop)
    → TellsDamaged g disk may damage (kind_by (told (Err stop))) (Some (reply_by (told (Err stop)))) → TellsDamaged g disk may damage (kind_by (told result)) (Some (reply_by (told result)))
by_stopped g disk may damage stop (Ok reply) is tells = absurd is
by_stopped g disk may damage stop (Err x) is tells =
    subst (λ y. TellsDamaged g disk may damage (kind_by (told (Err y))) (Some (reply_by (told (Err y))))) (sym is) tells

module _ {D : Type 0} (g : Ghosts D) (disk : D) (may : Digest32 → Type 0) (damage : Files → Option (Digest32 × ChunkFault)) where
  -- nothing is damaged
  pub damages_none : (kind : ℕ) (reply : Option Reply) → IsUndamaged reply → (g.honest disk → damage (g.content disk) ≡ None) → TellsDamaged g disk may damage kind reply
  damages_none kind reply other none = record {
    named = λ d f e. absurd (other d f e);
    cause = λ d f e h. absurd (other d f e);
    damaged = λ d f k h first. absurd (nothing_first (d, f) (sym (none h) ∙ first));
  }

  -- it was not done
  pub damages_stopped : (kind : ℕ) (reply : Option Reply) → IsUndamaged reply → (kind ≡ COMMAND_KIND → ⊥) → TellsDamaged g disk may damage kind reply
  damages_stopped kind reply other is = record {
    named = λ d f e. absurd (other d f e);
    cause = λ d f e h. absurd (other d f e);
    damaged = λ d f k h first. absurd (is k);
  }

  pub damages_failed : (e : DiskError) → TellsDamaged g disk may damage (kind_by (Err e)) (Some (reply_by (Err e)))
  damages_failed DiskMemory = damages_stopped 2 (Some (Refused NoMemory)) memory_undamaged (λ k. omega (arith, k))
  damages_failed DiskFailed = damages_stopped 5 (Some (Refused DiskFault)) fault_undamaged (λ k. omega (arith, k))

  -- a chunk is, by what is found there
  pub damages_told : (digest : Digest32) (found : ChunkFault) (refusal : Refusal) → refusal ≡ Damaged digest found → may digest → (g.honest disk → damage (g.content disk) ≡ Some (digest, found))
      → TellsDamaged g disk may damage 0 (Some (Refused refusal))
  damages_told digest found refusal is named first = record {
    named = λ d f e. subst may (digest_same digest d found f (sym is ∙ refused d f e)) named;
    cause = λ d f e h. first h ∙ told_same digest d found f (sym is ∙ refused d f e);
    damaged = λ d f k h was. ap (λ r. Some (Refused r)) (is ∙ damages d f (sym (first h) ∙ was));
  }
    where
      refused : (d : Digest32) (f : ChunkFault) → Some (Refused refusal) ≡ Some (Refused (Damaged d f)) → refusal ≡ Damaged d f
      refused d f e = cc

      digest_same : (a b : Digest32) (f g : ChunkFault) → Damaged a f ≡ Damaged b g → a ≡ b
      digest_same a b f g e = cc

      fault_same : (a b : Digest32) (f g : ChunkFault) → Damaged a f ≡ Damaged b g → f ≡ g
      fault_same a b f g e = cc

      told_same : (a b : Digest32) (f g : ChunkFault) → Damaged a f ≡ Damaged b g → ◌≡◌ {A = Option (Digest32 × ChunkFault)} (Some (a, f)) (Some (b, g))
      told_same a b f g e = ap (λ (x : Digest32). let o : Option (Digest32 × ChunkFault) = Some (x, f) in o) (digest_same a b f g e)
          ∙ ap (λ (x : ChunkFault). let o : Option (Digest32 × ChunkFault) = Some (b, x) in o) (fault_same a b f g e)

      both : (x y : Digest32 × ChunkFault) → Some x ≡ Some y → x ≡ y
      both x y e = cc

      damages : (d : Digest32) (f : ChunkFault) → ◌≡◌ {A = Option (Digest32 × ChunkFault)} (Some (digest, found)) (Some (d, f)) → Damaged digest found ≡ Damaged d f
      damages d f e = ap (λ (x : Digest32 × ChunkFault). Damaged x.0 x.1) (both (digest, found) (d, f) e)

  -- stopped before a chunk is read
  pub damages_unread : (stop : Stop) (result : Result Reply Stop) → IsErrAnd result (λ x. x ≡ stop)
      → IfRefused (λ refusal. (g.honest disk → damage (g.content disk) ≡ None) × ((digest : Digest32) (found : ChunkFault) → refusal ≡ Damaged digest found → ⊥)) stop
      → TellsDamaged g disk may damage (kind_by (told result)) (Some (reply_by (told result)))
  damages_unread stop result stops none = by_stopped g disk may damage stop result stops (by_stop stop none)
    where
      same : (r q : Refusal) → Some (Refused r) ≡ Some (Refused q) → r ≡ q
      same r q e = cc

      by_stop : (stop : Stop) → IfRefused (λ refusal. (g.honest disk → damage (g.content disk) ≡ None) × ((digest : Digest32) (found : ChunkFault) → refusal ≡ Damaged digest found → ⊥)) stop
          → TellsDamaged g disk may damage (kind_by (told (Err stop))) (Some (reply_by (told (Err stop))))
      by_stop (kinds.Refused refusal) h = damages_none 0 (Some (Refused refusal)) (λ d f e. h.1 d f (same refusal (Damaged d f) e)) h.0
      by_stop kinds.NoMemory h = damages_failed DiskMemory
      by_stop kinds.DiskFailed h = damages_failed DiskFailed
