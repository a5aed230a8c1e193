-- The last touches after a CHUNK and after an APPEND.
use Rattle.std.proofs.Common.{◌≡◌, ◌<◌, ◌+◌, ℕ, max, Bool, true, false, ◌||◌, cond, List, [], ◌∷◌, ◌++◌, length, get_or, take, Option, Some, None, Result, Ok, Err, IfOk, IsErrAnd, IsTrue, is_ok, refl, sym, ap, subst, ◌∙◌, arith}
use Rattle.std.specs.Prelude.{IsSome, option_map}
use Rattle.std.specs.Str.{bytes_eq}
use Rattle.std.specs.declared.alloc.Global.{Global}
use Rattle.std.specs.declared.vec.Vec.{Vec}
use Rattle.std.proofs.lemmas.List.{take_more}
use Rattle.std.proofs.lemmas.Slice.Eq.{bytes_eq-Decides}
use Rattle.store_types.specs.declared.append.AppendEntry.{AppendEntry}
use Rattle.store_types.specs.declared.names.Digest32.{Digest32}
use Rattle.store_types.specs.declared.refusal.Refusal.{Refusal as Cause}
use Rattle.store_types.specs.declared.refusal.Refusal.TheVariants as refusals
use Rattle.store_files.specs.Book.{Book}
use Rattle.atime_book.specs.Touches.{TouchedAt, TouchesKnown, greatest, last_of}
use Rattle.atime_book.specs.Present.{is_among}
use Rattle.wire_commands.specs.declared.command.Command.TheVariants.{Append}
use Rattle.wire_commands.specs.declared.reply.Reply.{Reply}
use Rattle.wire_commands.specs.declared.reply.Reply.TheVariants as replies
use Rattle.store_history.specs.declared.act.Act.{Act}
use Rattle.store_history.specs.declared.act.Act.TheVariants.{Chunk, Plain}
use Rattle.store_history.specs.LastTouches.{SameTouches, LastTouches, is_one_of, touched_by}
use Rattle.core_state.specs.declared.entering.Place.{Place}
use Rattle.store_stops.specs.declared.stop.Stop.{Stop}
use Rattle.store_stops.specs.declared.stop.Stop.TheVariants.{Refused, NoMemory, DiskFailed}
use Rattle.core_state.specs.declared.upkeep.Upkeep.{Upkeep}
use Rattle.core_state.specs.Commands.{IsNoRefusal}
use Rattle.store_history.specs.Replies.{may_answer}
use Rattle.core_state.specs.Settles.{reply_by}
use Rattle.core_state.specs.Stops.{told}
use Rattle.core_state.specs.Upkeeps.{touches_kept}
use Rattle.core_state.proofs.Touching.{refusal_untouched}
use Rattle.core_writer.specs.Touching.{ActTouches, EndsEntry, MakesEntry, TouchesNamed, digests_of}

pub false_true : false ≡ true → ⊥
false_true e = cc

-- ---- at one chunk

max_once : (n : ℕ) → max n n ≡ n
max_once n = omega arith

max_again : (a b : ℕ) → max (max a b) b ≡ max a b
max_again a b = omega arith

-- the last touch, with one more at this moment
abbrev later : ℕ → Option ℕ → Option ℕ
later when last = option_map (λ n. max n when) last

greatest_again : (last : Option ℕ) (when : ℕ) → greatest (Some (greatest last when)) when ≡ greatest last when
greatest_again None when = max_once when
greatest_again (Some n) when = max_again n when

later_again : (last : Option ℕ) (when : ℕ) → later when (later when last) ≡ later when last
later_again None when = refl
later_again (Some n) when = ap (λ m. Some m) (max_again n when)

-- made at this moment, and touched then
made_touched : (here : Bool) (old mid new : Option ℕ) (when : ℕ) → mid ≡ cond here (Some (greatest old when)) old → new ≡ cond here (Some (greatest mid when)) mid
    → new ≡ cond here (Some (greatest old when)) old
made_touched true old mid new when made touched = touched ∙ ap (λ o. Some (greatest o when)) made ∙ ap (λ n. Some n) (greatest_again old when)
made_touched false old mid new when made touched = touched ∙ made

-- made, and taken out
made_gone : (old : Book) (digest d : List ℕ) (here : Bool) (mid new : Option ℕ) (when : ℕ) → bytes_eq digest d ≡ here → last_of old digest ≡ None
    → mid ≡ cond here (Some (greatest (last_of old d) when)) (last_of old d) → new ≡ cond here None mid → new ≡ last_of old d
made_gone old digest d true mid new when is none made gone = gone ∙ sym (subst (λ x. last_of old x ≡ None) ((bytes_eq-Decides digest d).0 is) none)
made_gone old digest d false mid new when is none made gone = gone ∙ made

-- touched among some, and then as one more
touched_more : (before here : Bool) (old mid new : Option ℕ) (when : ℕ) → mid ≡ cond before (later when old) old → new ≡ cond here (later when mid) mid
    → new ≡ cond (before || here) (later when old) old
touched_more true true old mid new when each touched = touched ∙ ap (later when) each ∙ later_again old when
touched_more true false old mid new when each touched = touched ∙ each
touched_more false true old mid new when each touched = touched ∙ ap (later when) each
touched_more false false old mid new when each touched = touched ∙ each

-- ---- the entry of a chunk

-- what was touched has an entry
has_entry : (old new : Book) (digest : List ℕ) (when : ℕ) → TouchedAt old new digest when → IsSome (last_of new digest)
has_entry old new digest when touched =
    let there : last_of new digest ≡ Some (greatest (last_of old digest) when) = touched.last digest
    ∙ ap (λ b. cond b (Some (greatest (last_of old digest) when)) (last_of old digest)) ((bytes_eq-Decides digest digest).1 refl) in
    subst (λ (o : Option ℕ). IsSome o) (sym there) refl

-- the command was done
entry_touched : (old mid new : Book) (digest : List ℕ) (when : ℕ) (made : Bool) → MakesEntry old mid digest when made → EndsEntry mid new digest when true made
    → (d : List ℕ) → last_of new d ≡ cond (bytes_eq digest d) (Some (greatest (last_of old d) when)) (last_of old d)
entry_touched old mid new digest when true makes ends d =
    made_touched (bytes_eq digest d) (last_of old d) (last_of mid d) (last_of new d) when ((makes.1).last d) ((ends.known (has_entry old mid digest when makes.1)).last d)
entry_touched old mid new digest when false makes ends d =
    (ends.known (subst (λ (b : Book). IsSome (last_of b digest)) (sym makes.1) makes.0)).last d
    ∙ ap (λ (b : Book). cond (bytes_eq digest d) (Some (greatest (last_of b d) when)) (last_of b d)) makes.1

-- it was not
entry_left : (old mid new : Book) (digest : List ℕ) (when : ℕ) (made : Bool) → MakesEntry old mid digest when made → EndsEntry mid new digest when false made
    → (d : List ℕ) → last_of new d ≡ last_of old d
entry_left old mid new digest when true makes ends d =
    made_gone old digest d (bytes_eq digest d) (last_of mid d) (last_of new d) when refl makes.0 ((makes.1).last d) (ends.last d)
entry_left old mid new digest when false makes ends d = ap (λ (b : Book). last_of b d) (ends ∙ makes.1)

-- ---- the entries of an APPEND

-- where the book has no such chunk nothing is noted
unknown_at : (book : Book) (digest d : List ℕ) (when : ℕ) (here : Bool) → bytes_eq digest d ≡ here → last_of book digest ≡ None
    → last_of book d ≡ cond here (later when (last_of book d)) (last_of book d)
unknown_at book digest d when true is none =
    let absent : last_of book d ≡ None = subst (λ x. last_of book x ≡ None) ((bytes_eq-Decides digest d).0 is) none in
    absent ∙ sym (ap (later when) absent)
unknown_at book digest d when false is none = refl

known_at : (book : Book) (digest d : List ℕ) (when last : ℕ) (here : Bool) → bytes_eq digest d ≡ here → last_of book digest ≡ Some last
    → cond here (Some (greatest (last_of book d) when)) (last_of book d) ≡ cond here (later when (last_of book d)) (last_of book d)
known_at book digest d when last true is some =
    let there : last_of book d ≡ Some last = subst (λ x. last_of book x ≡ Some last) ((bytes_eq-Decides digest d).0 is) some in
    ap (λ o. Some (greatest o when)) there ∙ sym (ap (later when) there)
known_at book digest d when last false is some = refl

touched_known : (book new : Book) (digest : List ℕ) (when : ℕ) → TouchesKnown book new digest when
    → (d : List ℕ) → last_of new d ≡ cond (bytes_eq digest d) (later when (last_of book d)) (last_of book d)
touched_known book new digest when touches d = by_last (last_of book digest) refl
  where
    by_last : (o : Option ℕ) → last_of book digest ≡ o → last_of new d ≡ cond (bytes_eq digest d) (later when (last_of book d)) (last_of book d)
    by_last None none = ap (λ (b : Book). last_of b d) (touches.unknown none) ∙ unknown_at book digest d when (bytes_eq digest d) refl none
    by_last (Some last) some =
        (touches.known (subst (λ (o : Option ℕ). IsSome o) (sym some) refl)).last d ∙ known_at book digest d when last (bytes_eq digest d) refl some

one-push : (d : List ℕ) (es : List AppendEntry) (e : AppendEntry) → is_one_of d (digests_of (es ++ e ∷ [])) ≡ (is_one_of d (digests_of es) || bytes_eq (e.digest).0 d)
one-push d [] e = by_test (bytes_eq (e.digest).0 d)
  where
    by_test : (b : Bool) → (b || false) ≡ b
    by_test true = refl
    by_test false = refl
one-push d (x ∷ es) e = ap (λ b. bytes_eq (x.digest).0 d || b) (one-push d es e) ∙ by_test (bytes_eq (x.digest).0 d)
  where
    by_test : (b : Bool) → (b || (is_one_of d (digests_of es) || bytes_eq (e.digest).0 d)) ≡ ((b || is_one_of d (digests_of es)) || bytes_eq (e.digest).0 d)
    by_test true = refl
    by_test false = refl

each_more : (old book new : Book) (es : List AppendEntry) (e : AppendEntry) (when : ℕ) → TouchesNamed old book es when → TouchesKnown book new (e.digest).0 when
    → TouchesNamed old new (es ++ e ∷ []) when
each_more old book new es e when each touches = record {
  last = λ d. touched_more (is_one_of d (digests_of es)) (bytes_eq (e.digest).0 d) (last_of old d) (last_of book d) (last_of new d) when (each.last d)
      (touched_known book new (e.digest).0 when touches d)
      ∙ ap (λ b. cond b (later when (last_of old d)) (last_of old d)) (sym (one-push d es e));
}

pub each_next : (old book new : Book) (entries : List AppendEntry) (i when : ℕ) (none : AppendEntry) → i < length entries → TouchesNamed old book (take i entries) when
    → TouchesKnown book new ((get_or entries i none).digest).0 when → TouchesNamed old new (take (i + 1) entries) when
each_next old book new entries i when none below each touches =
    subst (λ es. TouchesNamed old new es when) (sym (take_more entries i none below)) (each_more old book new (take i entries) (get_or entries i none) when each touches)

-- ---- by how the command ended

-- a command that stops touches nothing
stop_untouched : (act : Act) (stop : Stop) (when : ℕ) (t : LastTouches) → SameTouches t (touched_by act (Some (reply_by (told (Err stop)))) when t)
stop_untouched act (Refused refusal) when t = refusal_untouched act refusal when t
stop_untouched act NoMemory when t = refusal_untouched act refusals.NoMemory when t
stop_untouched act DiskFailed when t = refusal_untouched act refusals.DiskFault when t

left_touches : (old new : Upkeep) (at : Place) (act : Act) (stop : Stop) → new.undated ≡ old.undated → ((d : List ℕ) → last_of new.book d ≡ last_of old.book d)
    → ActTouches old new at act (Err stop)
left_touches old new at act stop undated left =
    let same = stop_untouched act stop at.moment (touches_kept old) in record {
      last = λ d. left d ∙ same.last d;
      undated = λ d. ap (λ (u : Vec Digest32 Global). is_among d u.items) undated ∙ same.undated d;
    }

pub stopped_touches : (old new : Upkeep) (at : Place) (act : Act) (stop : Stop) (result : Result Reply Stop) → IsErrAnd result (λ x. x ≡ stop) → new.undated ≡ old.undated → new.book ≡ old.book
    → ActTouches old new at act result
stopped_touches old new at act stop (Ok reply) stops undated same = absurd stops
stopped_touches old new at act stop (Err x) stops undated same = left_touches old new at act x undated (λ d. ap (λ (b : Book). last_of b d) same)

-- what they are answered where they are done
chunk_done : (digest : Digest32) (checked : Result (List ℕ) Cause) (reply : Reply) → IsTrue (may_answer (Chunk digest checked) reply) → IsNoRefusal reply → reply ≡ replies.Done
chunk_done digest checked replies.Done answers plain = refl
chunk_done digest checked (replies.Refused refusal) answers plain = absurd plain
chunk_done digest checked reply answers plain = absurd (false_true answers)

append_done : (number : ℕ) (entries : List AppendEntry) (reply : Reply) → IsTrue (may_answer (Plain (Append number entries)) reply) → IsNoRefusal reply → reply ≡ replies.Done
append_done number entries replies.Done answers plain = refl
append_done number entries (replies.Refused refusal) answers plain = absurd plain
append_done number entries reply answers plain = absurd (false_true answers)

pub chunk_touches : (old new : Upkeep) (mid : Book) (at : Place) (digest : Digest32) (checked : Result (List ℕ) Cause) (result : Result Reply Stop) (done made : Bool)
    → IfOk (told result) (λ reply. IsTrue (may_answer (Chunk digest checked) reply)) → IfOk result IsNoRefusal → new.undated ≡ old.undated → done ≡ is_ok result
    → MakesEntry old.book mid digest.0 at.moment made → EndsEntry mid new.book digest.0 at.moment done made
    → ActTouches old new at (Chunk digest checked) result
chunk_touches old new mid at digest checked (Ok reply) done made answers plain undated is makes ends =
    subst (λ r. SameTouches (touches_kept new) (touched_by (Chunk digest checked) (Some r) at.moment (touches_kept old))) (sym (chunk_done digest checked reply answers plain))
    (record {
      last = entry_touched old.book mid new.book digest.0 at.moment made makes (subst (λ b. EndsEntry mid new.book digest.0 at.moment b made) is ends);
      undated = λ d. ap (λ (u : Vec Digest32 Global). is_among d u.items) undated;
    })
chunk_touches old new mid at digest checked (Err stop) done made answers plain undated is makes ends =
    left_touches old new at (Chunk digest checked) stop undated
    (entry_left old.book mid new.book digest.0 at.moment made makes (subst (λ b. EndsEntry mid new.book digest.0 at.moment b made) is ends))

pub append_touches : (old new : Upkeep) (at : Place) (number : ℕ) (entries : List AppendEntry) (result : Result Reply Stop)
    → IfOk (told result) (λ reply. IsTrue (may_answer (Plain (Append number entries)) reply)) → IfOk result IsNoRefusal → new.undated ≡ old.undated → is_ok result ≡ true
    → TouchesNamed old.book new.book entries at.moment → ActTouches old new at (Plain (Append number entries)) result
append_touches old new at number entries (Ok reply) answers plain undated is touches =
    subst (λ r. SameTouches (touches_kept new) (touched_by (Plain (Append number entries)) (Some r) at.moment (touches_kept old))) (sym (append_done number entries reply answers plain))
    (record { last = touches.last; undated = λ d. ap (λ (u : Vec Digest32 Global). is_among d u.items) undated })
append_touches old new at number entries (Err stop) answers plain undated is touches = absurd (false_true is)

pub undone_touches : (old : Upkeep) (at : Place) (act : Act) (result : Result Reply Stop) → is_ok result ≡ false → ActTouches old old at act result
undone_touches old at act (Ok reply) is = absurd (false_true (sym is))
undone_touches old at act (Err stop) is = left_touches old old at act stop refl (λ d. refl)
