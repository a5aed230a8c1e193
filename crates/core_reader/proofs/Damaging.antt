-- When a chunk is told to be damaged that was read.
use Rattle.disk_trait.specs.declared.disk.Disk.{Ghosts}
use Rattle.std.proofs.Common.{◌≡◌, Option, Some, Result, Err, IsErrAnd, ap}
use Rattle.disk_trait.specs.Files.{Files}
use Rattle.disk_trait.specs.declared.disk.DiskError.TheVariants.{NoMemory as DiskMemory, Failed as DiskFailed}
use Rattle.store_types.specs.declared.names.Digest32.{Digest32}
use Rattle.store_types.specs.declared.refusal.ChunkFault.{ChunkFault}
use Rattle.store_types.specs.declared.refusal.Refusal.TheVariants.{Damaged}
use Rattle.wire_commands.specs.declared.reply.Reply.{Reply}
use Rattle.store_stops.specs.declared.stop.Stop.{Stop}
use Rattle.store_stops.specs.declared.stop.Stop.TheVariants as kinds
use Rattle.core_state.specs.Damages.{TellsDamaged}
use Rattle.core_state.specs.Settles.{kind_by, reply_by}
use Rattle.core_state.specs.Stops.{told}
use Rattle.core_state.proofs.DamageLemmas.{by_stopped, damages_failed, damages_told}
use Rattle.core_reader.specs.Chunks.{StopsAt}

module _ {D : Type 0} (g : Ghosts D) (disk : D) (may : Digest32 → Type 0) (damage : Files → Option (Digest32 × ChunkFault)) where
  -- stopped as a chunk was read
  pub damages_found : (digest : Digest32) (stop : Stop) (result : Result Reply Stop) → IsErrAnd result (λ x. x ≡ stop) → StopsAt digest stop → may digest
      → (g.honest disk → (found : ChunkFault) → stop ≡ kinds.Refused (Damaged digest found) → damage (g.content disk) ≡ Some (digest, found))
      → TellsDamaged g disk may damage (kind_by (told result)) (Some (reply_by (told result)))
  damages_found digest stop result stops at named first = by_stopped g disk may damage stop result stops (by_stop stop at first)
    where
      by_stop : (stop : Stop) → StopsAt digest stop → (g.honest disk → (found : ChunkFault) → stop ≡ kinds.Refused (Damaged digest found) → damage (g.content disk) ≡ Some (digest, found))
          → TellsDamaged g disk may damage (kind_by (told (Err stop))) (Some (reply_by (told (Err stop))))
      by_stop (kinds.Refused refusal) h first = damages_told g disk may damage digest (h.0).0 refusal (h.0).1 named (λ honest. first honest (h.0).0 (ap (λ r. kinds.Refused r) (h.0).1))
      by_stop kinds.NoMemory h first = damages_failed g disk may damage DiskMemory
      by_stop kinds.DiskFailed h first = damages_failed g disk may damage DiskFailed
