-- What a SYNC at an entry makes of a reply.
use Rattle.std.proofs.Common.{◌≡◌, drop, Result, Ok, Err, refl, sym, ap, subst, ◌∙◌}
use Rattle.std.specs.Prelude.{IfErr}
use Rattle.std.proofs.lemmas.List.{drop-drop}
use Rattle.wire_commands.specs.declared.reply.Reply.{Reply}
use Rattle.store_history.specs.Pulling as model
use Rattle.store_history.specs.Pulling.{batch, goes_on, next_append, take_more}
use Rattle.pull_steps.specs.declared.pull.State.{State}
use Rattle.pull_steps.specs.declared.pull.State.TheVariants as states
use Rattle.pull_steps.specs.declared.stages.AtEntry.{AtEntry}
use Rattle.pull_steps.specs.declared.stages.HasChunk.{HasChunk}
use Rattle.pull_steps.specs.Asked.{IsAsking, IsOver}
use Rattle.pull_steps.specs.States.{CourseHasText, EndsInText, appending_at, course_at, index_at, pull_in, reading_at, sending_at, stock_at}
use Rattle.pull_steps.specs.Entries.{appended_behind, chunk_behind, size_at}
use Rattle.pull_steps.specs.Indexes.{size_first}
use Rattle.pull_steps.specs.Taken.{IsData, IsReadOf}
use Rattle.pull_steps.proofs.Sent.{asks_first, entries_are, head_at, tail_at}

module _ (a : AtEntry) where
  reads : reading_at a ≡ model.asks (model.reading_chunk (course_at a) (stock_at a) (index_at a) (head_at a) (tail_at a))
  reads = asks_first (λ e later. model.reading_chunk (course_at a) (stock_at a) (index_at a) e later) a

  appends : appending_at a ≡ model.asks (model.appending (course_at a) (stock_at a) (index_at a) (head_at a) (tail_at a))
  appends = asks_first (λ e later. model.appending (course_at a) (stock_at a) (index_at a) e later) a

  pub reading_texts : EndsInText (reading_at a) → CourseHasText (course_at a)
  reading_texts ends = subst EndsInText reads ends

  pub appending_texts : EndsInText (appending_at a) → CourseHasText (course_at a)
  appending_texts ends = subst EndsInText appends ends

  -- memory was wanting for the chunk
  pub reading_kept : (reply : Reply) (result : Result State State) → IfErr result (λ s. (pull_in s ≡ reading_at a) × IsData (size_at a) reply)
      → IfErr result (λ s. (pull_in s ≡ reading_at a) × IsReadOf (reading_at a) reply)
  reading_kept reply (Ok s) h = tt
  reading_kept reply (Err s) h =
      (h.0, subst (λ j. IsReadOf j reply) (sym reads) (subst (λ es. IsData (size_first (index_at a) es) reply) (entries_are a) h.1))

  -- the entries were appended
  pub appended_is : (reply : Reply) → goes_on reply (appended_behind a) ≡ take_more (appending_at a) reply
  unfolding model.take
  appended_is reply =
      ap (λ es. goes_on reply (next_append (course_at a) (stock_at a) (index_at a) es))
      (sym (drop-drop batch a.place (a.sending).index.entries.items) ∙ ap (drop batch) (entries_are a))
      ∙ sym (ap (λ j. take_more j reply) appends)

module _ (h : HasChunk) where
  sends : sending_at h ≡ model.asks (model.sending_chunk (course_at h.at) (stock_at h.at) (index_at h.at) (head_at h.at) (tail_at h.at) h.blob)
  sends = asks_first (λ e later. model.sending_chunk (course_at h.at) (stock_at h.at) (index_at h.at) e later h.blob) h.at

  pub sending_texts : EndsInText (sending_at h) → CourseHasText (course_at h.at)
  sending_texts ends = subst EndsInText sends ends

  -- the chunk was sent
  pub sent_is : (reply : Reply) → goes_on reply (chunk_behind h.at) ≡ take_more (sending_at h) reply
  unfolding model.take
  sent_is reply = sym (ap (λ j. take_more j reply) sends)

-- ---- whether it is over

-- only a job that is over asks nothing
pub over_only : (s : State) → IsOver (pull_in s) → (report : Reply) × (s ≡ states.Over report)
over_only (states.Over report) h = (report, refl)
over_only (states.Seeking x) h = absurd h
over_only (states.Comparing x) h = absurd h
over_only (states.Starting x) h = absurd h
over_only (states.ReadingManifest x) h = absurd h
over_only (states.ReadingFile x) h = absurd h
over_only (states.Opening x) h = absurd h
over_only (states.ReadingChunk x) h = absurd (subst IsOver (reads x) h)
over_only (states.SendingChunk x) h = absurd (subst IsOver (sends x) h)
over_only (states.Appending x) h = absurd (subst IsOver (appends x) h)
over_only (states.ClosingIndex x) h = absurd h
over_only (states.SendingBlob x) h = absurd h
over_only (states.SendingManifest x) h = absurd h
over_only (states.Finishing x) h = absurd h
over_only (states.Rejecting x) h = absurd h
over_only (states.Aborting x) h = absurd h

-- any other asks for something
pub asks_else : (s : State) → ((report : Reply) → s ≡ states.Over report → ⊥) → IsAsking (pull_in s)
asks_else (states.Over report) other = absurd (other report refl)
asks_else (states.Seeking x) other = tt
asks_else (states.Comparing x) other = tt
asks_else (states.Starting x) other = tt
asks_else (states.ReadingManifest x) other = tt
asks_else (states.ReadingFile x) other = tt
asks_else (states.Opening x) other = tt
asks_else (states.ReadingChunk x) other = subst IsAsking (sym (reads x)) tt
asks_else (states.SendingChunk x) other = subst IsAsking (sym (sends x)) tt
asks_else (states.Appending x) other = subst IsAsking (sym (appends x)) tt
asks_else (states.ClosingIndex x) other = tt
asks_else (states.SendingBlob x) other = tt
asks_else (states.SendingManifest x) other = tt
asks_else (states.Finishing x) other = tt
asks_else (states.Rejecting x) other = tt
asks_else (states.Aborting x) other = tt
