-- Where a SYNC may go on.
use Rattle.std.proofs.Common.{◌≡◌, inr, Bool, true, false, ◌||◌, refl, sym, subst}
use Rattle.store_types.specs.declared.refusal.Refusal.{Refusal}
use Rattle.store_types.specs.declared.refusal.Refusal.TheVariants.{NoMemory, RemoteFault}
use Rattle.wire_commands.specs.declared.reply.Reply.{Reply}
use Rattle.wire_commands.specs.declared.reply.Reply.TheVariants as replies
use Rattle.store_history.specs.declared.act.Act.{Act}
use Rattle.store_history.specs.Pulling.{Pulling, seeking, comparing, starting, reading_manifest, reading_file, opening, reading_chunk, sending_chunk, appending, closing_index, sending_blob, sending_manifest, finishing, rejecting, aborting, ends, sought, compared, started, manifest_told, file_told, chunk_told, take, is_ending}
use Rattle.lane.specs.declared.acts.Told.{Told}
use Rattle.lane.specs.Acting.{MayTell}
use Rattle.lane.specs.Tasks.{pulls, pull_stage, IsActOf, IsStopped, MayGoOn}
use Rattle.lane.proofs.Formed.{take_sound}
use Rattle.lane.proofs.Stages.{by_last}

false_true : false ≡ true → ⊥
false_true e = cc

-- ---- want of memory ends a SYNC, or what is left is that its writer ends

want_stops : (x : Pulling) → IsStopped (pull_stage (take x (replies.Refused NoMemory)))
unfolding take sought compared started manifest_told file_told chunk_told
want_stops (seeking group) = tt
want_stops (comparing group remote) = tt
want_stops (starting c) = tt
want_stops (reading_manifest c bytes) = refl
want_stops (reading_file c s name bytes) = refl
want_stops (opening c s x) = refl
want_stops (reading_chunk c s x e later) = refl
want_stops (sending_chunk c s x e later blob) = refl
want_stops (appending c s x e later) = refl
want_stops (closing_index c s x) = refl
want_stops (sending_blob c s name bytes) = refl
want_stops (sending_manifest c s) = refl
want_stops (finishing c) = refl
want_stops (rejecting path) = refl
want_stops (aborting first) = refl

ends_stopped : (first : Refusal) (r : Reply) → IsStopped (pull_stage (ends first r))
ends_stopped first (replies.Refused NoMemory) = refl
ends_stopped first (replies.Refused RemoteFault) = refl
ends_stopped first r = tt

stays_stopped : (x : Pulling) (r : Reply) → is_ending x ≡ true → IsStopped (pull_stage (take x r))
unfolding take
stays_stopped (aborting first) r stops = ends_stopped first r
stays_stopped x r stops = absurd (false_true stops)

-- ---- from where its next act was told

pub pulls_on : (x : Pulling) (was : Bool) (act : Act) (told : Told) → IsActOf (pulls x) act → MayTell act told → MayGoOn (pulls x) was → MayGoOn (pull_stage (take x told.reply)) (told.last || was)
pulls_on x was act told of tells on = record {
  stops = by_last (IsStopped (pull_stage (take x told.reply))) told.last was
      (λ last. subst (λ r. IsStopped (pull_stage (take x r))) (sym (tells.want (inr last))) (want_stops x))
      (λ before. stays_stopped x told.reply (on.stops before));
  sound = take_sound x act told of tells on.sound;
}
