-- When a chunk is told to be damaged.
use Rattle.disk_trait.specs.declared.disk.Disk.{Ghosts}
use Rattle.std.specs.Prelude.{◌≡◌, ℕ, Option, Some}
use Rattle.disk_trait.specs.Files.{Files}
use Rattle.store_types.specs.declared.names.Digest32.{Digest32}
use Rattle.store_types.specs.declared.order.TheConstants.{COMMAND_KIND}
use Rattle.store_types.specs.declared.refusal.ChunkFault.{ChunkFault}
use Rattle.store_types.specs.declared.refusal.Refusal.TheVariants.{Damaged}
use Rattle.wire_commands.specs.declared.reply.Reply.{Reply}
use Rattle.wire_commands.specs.declared.reply.Reply.TheVariants.{Refused}

-- A chunk that the answer needs is told to be damaged. On an honest disk, whatever it holds, that is so exactly where one is, or, in a
-- range, has another length than the index says, before a page is unreadable, of the first such, with what is found there: want of memory
-- and faults of the disk, which have kinds of their own, apart.
pub record TellsDamaged {D : Type 0} (d : Ghosts D) (disk : D) (may_name : Digest32 → Type 0) (damage : Files → Option (Digest32 × ChunkFault)) (kind : ℕ) (reply : Option Reply) : Type 0 where
  pub named : (digest : Digest32) (found : ChunkFault) → reply ≡ Some (Refused (Damaged digest found)) → may_name digest
  pub cause : (digest : Digest32) (found : ChunkFault) → reply ≡ Some (Refused (Damaged digest found)) → d.honest disk → damage (d.content disk) ≡ Some (digest, found)
  pub damaged : (digest : Digest32) (found : ChunkFault) → kind ≡ COMMAND_KIND → d.honest disk → damage (d.content disk) ≡ Some (digest, found) → reply ≡ Some (Refused (Damaged digest found))
