-- A SYNC at an entry of an index.
use Rattle.std.proofs.lemmas.Bool.{eqb-true}
use Rattle.std.proofs.Common.{◌≡◌, ◌+◌, ◌-◌, ℕ, Bool, true, false, List, ◌∷◌, drop, take, length, get_or, Result, Ok, Err, refl, sym, ap, subst, ◌∙◌, arith, length-drop}
use Rattle.std.specs.Prelude.{IfErr, OnErr, OnOk, min, ◌==◌, if◌then◌else◌}
use Rattle.std.specs.FinMap.{FinMap, entries, insert}
use Rattle.std.proofs.lemmas.List.{drop_min, take_min}
use Rattle.store_types.specs.declared.append.AppendEntry.{AppendEntry}
use Rattle.store_types.specs.declared.refusal.Refusal.{Refusal}
use Rattle.store_types.specs.Names.{text_cmp}
use Rattle.wire_commands.specs.declared.command.Command.TheVariants.{Append}
use Rattle.wire_commands.specs.declared.reply.Reply.{Reply}
use Rattle.wire_commands.specs.declared.reply.Reply.TheVariants.{Data, Refused}
use Rattle.store_history.specs.Acts.{act_of_command}
use Rattle.store_history.specs.Pulling as model
use Rattle.store_history.specs.Pulling.{SyncJob, asks, batch, chunk_told, goes_on, sending_chunk, take_more, with_chunk}
use Rattle.pull_steps.specs.declared.ask.Ask.TheVariants as ask
use Rattle.pull_steps.specs.declared.pull.State.{State}
use Rattle.pull_steps.specs.declared.stages.AtEntry.{AtEntry}
use Rattle.pull_steps.specs.States.{CourseHasText, EndsInText, appending_at, asks_at, course_at, entries_at, index_at, pull_in, reading_at, stock_at}
use Rattle.pull_steps.specs.Entries.{AsksAt, chunk_read_at, chunk_told_at, IsAsLong, size_at}
use Rattle.pull_steps.specs.Indexes.{fits_at, size_first}
use Rattle.pull_steps.specs.Taken.{IsData, ended_by, mismatched_of}
use Rattle.pull_steps.proofs.Sent.{asks_first, at_entry, entered, entries_are, first_is, head_at, tail_at}

-- what a result gives, and what follows of that
pub map_ok : {A E P Q : Type 0} (r : Result A E) → (P → Q) → OnOk r P → OnOk r Q
map_ok (Ok x) f p = f p
map_ok (Err e) f p = tt

pub map_err : {A E P Q : Type 0} (r : Result A E) → (P → Q) → OnErr r P → OnErr r Q
map_err (Ok x) f p = tt
map_err (Err e) f p = f p

-- a command was done, and then this comes
pub goes_past : (reply : Reply) (next : SyncJob) → ((r : Refusal) → reply ≡ Refused r → ⊥) → next ≡ goes_on reply next
goes_past (Refused r) next other = absurd (other r refl)
goes_past reply next other = refl

pub drop_end : (xs : List AppendEntry) (n end : ℕ) → end ≡ min (length xs) n → drop end xs ≡ drop n xs
drop_end xs n end is =
    let so : end ≡ min n (length xs) = omega (arith, is) in
    ap (λ k. drop k xs) so ∙ drop_min n xs

take_end : (xs : List AppendEntry) (n m : ℕ) → m ≡ min (length xs) n → take m xs ≡ take n xs
take_end xs n m is =
    let so : m ≡ min n (length xs) = omega (arith, is) in
    ap (λ k. take k xs) so ∙ take_min n xs

module _ (a : AtEntry) where
  -- ---- the entries of an APPEND

  pub batch_is : (end : ℕ) → end ≡ min (length (a.sending).index.entries.items) (a.place + batch) → take (end - a.place) (entries_at a) ≡ take batch (entries_at a)
  batch_is end is = take_end (entries_at a) batch (end - a.place) (simp length-drop (omega (arith, is, a.within, (a.sending).index.entries.ok.0)))

  pub appends_ask : (given : List AppendEntry) → given ≡ take batch (entries_at a) → AsksAt (appending_at a) (ask.Command (Append 0 given))
  appends_ask given is =
      let made : act_of_command (Append 0 given) ≡ act_of_command (Append 0 (take batch (head_at a ∷ tail_at a))) =
      ap (λ xs. act_of_command (Append 0 xs)) (is ∙ ap (take batch) (entries_are a)) in
      subst (λ j. AsksAt j (ask.Command (Append 0 given)))
      (sym (asks_first (λ e later. model.appending (course_at a) (stock_at a) (index_at a) e later) a)) made

  -- ---- the chunk of the entry

  -- where what was sent is as before, nothing has changed
  pub same_sent : (m : FinMap text_cmp ℕ) → m ≡ (a.sending).stock.sent → (let s : model.Stock = record (stock_at a) { sent = entries m } in s) ≡ stock_at a
  same_sent m is = ap (λ k. (let s : model.Stock = record (stock_at a) { sent = entries k } in s)) is

  pub chunk_ended : (reply : Reply) → ((blob : List ℕ) → reply ≡ Data blob → ⊥) → ended_by reply ≡ chunk_told_at a reply
  unfolding model.take chunk_told
  chunk_ended reply other =
      by_reply reply other ∙ sym (ap (λ j. take_more j reply) (asks_first (λ e later. model.reading_chunk (course_at a) (stock_at a) (index_at a) e later) a))
    where
      by_reply : (r : Reply) → ((blob : List ℕ) → r ≡ Data blob → ⊥)
          → ended_by r ≡ take_more (asks (model.reading_chunk (course_at a) (stock_at a) (index_at a) (head_at a) (tail_at a))) r
      by_reply (Data blob) other = absurd (other blob refl)
      by_reply (Refused refusal) other = refl
      by_reply r other = refl

  module _ (blob : List ℕ) where
    -- by whether its length is that of the entry
    read_by : (fits : Bool) → fits_at (a.sending).index a.place (length blob) ≡ fits
        → (if fits then asks (sending_chunk (course_at a) (with_chunk (head_at a) blob (stock_at a)) (index_at a) (head_at a) (tail_at a) blob) else mismatched_of (head_at a).digest)
        ≡ chunk_read_at a blob
    unfolding model.take chunk_told
    read_by fits is =
        let after = λ (b : Bool). if b then asks (sending_chunk (course_at a) (with_chunk (head_at a) blob (stock_at a)) (index_at a) (head_at a) (tail_at a) blob)
        else mismatched_of (head_at a).digest in
        let told = sym is ∙ ap (λ es. length blob == size_first (index_at a) es) (entries_are a) in
        ap after told ∙ sym (ap (λ j. take_more j (Data blob)) (asks_first (λ e later. model.reading_chunk (course_at a) (stock_at a) (index_at a) e later) a))

    pub mismatch_read : (item : AppendEntry) → item ≡ get_or (a.sending).index.entries.items a.place item → fits_at (a.sending).index a.place (length blob) ≡ false
        → mismatched_of item.digest ≡ chunk_read_at a blob
    mismatch_read item is fits = sym (ap (λ (x : AppendEntry). mismatched_of x.digest) (first_is a item (head_at a) (tail_at a) is (entries_are a))) ∙ read_by false fits

    -- the chunk's length is noted
    pub noted : (m : FinMap text_cmp ℕ) (item : AppendEntry) (n : ℕ) → item ≡ get_or (a.sending).index.entries.items a.place item
        → m ≡ insert (a.sending).stock.sent (item.digest).0 n → n ≡ length blob → (e : AppendEntry) (later : List AppendEntry) → entries_at a ≡ e ∷ later
        → (let s : model.Stock = record (stock_at a) { sent = entries m } in s) ≡ with_chunk e blob (stock_at a)
    noted m item n is added long e later left =
        let head : e ≡ item = first_is a item e later is left in
        let with : (x : FinMap text_cmp ℕ) → model.Stock = λ x. record (stock_at a) { sent = entries x } in
        ap with added ∙ ap (λ k. with (insert (a.sending).stock.sent (item.digest).0 k)) long
        ∙ ap (λ (x : AppendEntry). with (insert (a.sending).stock.sent (x.digest).0 (length blob))) (sym head)
        ∙ ap (λ x. with (insert x (e.digest).0 (length blob))) (sym (entered (a.sending).stock.sent))

  module _ (new : AtEntry) (place : new.place ≡ a.place) (course : course_at new ≡ course_at a) (index : index_at new ≡ index_at a) where
    same_entries : entries_at new ≡ entries_at a
    same_entries = ap (λ n. drop n (new.sending).index.entries.items) place ∙ ap (λ (x : model.Index). drop a.place x.entries) index

    -- memory was wanting
    pub reading_again : stock_at new ≡ stock_at a → reading_at new ≡ reading_at a
    reading_again stock =
        let now = λ (c : model.Course) (s : model.Stock) (x : model.Index). asks_at (λ e later. model.reading_chunk c s x e later) (entries_at a) in
        ap (asks_at (λ e later. model.reading_chunk (course_at new) (stock_at new) (index_at new) e later)) same_entries
        ∙ ap (λ c. now c (stock_at new) (index_at new)) course ∙ ap (λ s. now (course_at a) s (index_at new)) stock ∙ ap (λ x. now (course_at a) (stock_at a) x) index

    module _ (blob : List ℕ) (stock : stock_at new ≡ with_chunk (head_at a) blob (stock_at a)) (fits : fits_at (a.sending).index a.place (length blob) ≡ true) where
      -- the chunk is sent
      pub chunk_sent : asks_at (λ e later. sending_chunk (course_at new) (stock_at new) (index_at new) e later blob) (entries_at new) ≡ chunk_read_at a blob
      chunk_sent =
          let now = λ (c : model.Course) (s : model.Stock) (x : model.Index). asks (sending_chunk c s x (head_at a) (tail_at a) blob) in
          ap (asks_at (λ e later. sending_chunk (course_at new) (stock_at new) (index_at new) e later blob)) (same_entries ∙ entries_are a)
          ∙ ap (λ c. now c (stock_at new) (index_at new)) course ∙ ap (λ s. now (course_at a) s (index_at new)) stock
          ∙ ap (λ x. now (course_at a) (with_chunk (head_at a) blob (stock_at a)) x) index ∙ read_by blob true fits

-- and the reply was its blob
pub kept_data : (a : AtEntry) (blob : List ℕ) (reply : Reply) (result : Result State State) → reply ≡ Data blob
    → IfErr result (λ s. (pull_in s ≡ reading_at a) × IsAsLong a blob) → IfErr result (λ s. (pull_in s ≡ reading_at a) × IsData (size_at a) reply)
kept_data a blob reply (Ok s) is h = tt
kept_data a blob reply (Err s) is h = (h.0, subst (IsData (size_at a)) (sym is) (eqb-true (length blob) (size_at a) h.1))

-- what is reported in the end has a text as before
module _ (a new : AtEntry) where
  pub reading_text : course_at new ≡ course_at a → CourseHasText (course_at a) → EndsInText (reading_at new)
  reading_text course texts =
      let es = (new.sending).index.entries in
      at_entry (λ e later. model.reading_chunk (course_at new) (stock_at new) (index_at new) e later) EndsInText es.items new.place (omega (arith, new.within, es.ok.0))
      (λ e later. subst CourseHasText (sym course) texts)

  pub sending_text : (blob : List ℕ) → course_at new ≡ course_at a → CourseHasText (course_at a)
      → EndsInText (asks_at (λ e later. sending_chunk (course_at new) (stock_at new) (index_at new) e later blob) (entries_at new))
  sending_text blob course texts =
      let es = (new.sending).index.entries in
      at_entry (λ e later. sending_chunk (course_at new) (stock_at new) (index_at new) e later blob) EndsInText es.items new.place (omega (arith, new.within, es.ok.0))
      (λ e later. subst CourseHasText (sym course) texts)
