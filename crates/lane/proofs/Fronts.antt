-- What stands at the front, by the frame there.
use Rattle.std.proofs.Common.{◌≡◌, ◌≢◌, ℕ, ◌+◌, ◌<◌, ◌≤◌, ◌^◌, Bool, true, false, ◌&&◌, List, [], ◌∷◌, ◌++◌, length, take, drop, Some, None, refl, sym, ap, subst, ◌∙◌, arith, nat_le}
use Rattle.std.specs.Int.{w32, from_le_bytes}
use Rattle.std.proofs.lemmas.Bool.Decides.{nat_tests}
use Rattle.std.proofs.lemmas.List.{length-take, length-append, length-drop, take-append-le}
use Rattle.store_types.specs.declared.names.Keep.{Keep}
use Rattle.store_types.specs.declared.refusal.Refusal.TheVariants.{BadFrame, TooLong}
use Rattle.wire_frames.specs.Frames.{Tail, Front, short, too_long, whole, cut, advanced, advanced_by}
use Rattle.wire_frames.proofs.FramesLemmas.{cut-few, cut-whole, cut-length, cut-is_whole}
use Rattle.wire_commands.specs.declared.command.Command.{Command}
use Rattle.wire_commands.specs.declared.command.Command.TheVariants as commands
use Rattle.wire_commands.specs.declared.reply.Reply.TheVariants.{Refused}
use Rattle.wire_commands.specs.CommandText.{command_of, command_text}
use Rattle.wire_commands.specs.HasText.{ReplyHasText}
use Rattle.wire_commands.specs.Inputs.{front, cut_front, body_front}
use Rattle.wire_commands.specs.RefusalText.{refusal_text}
use Rattle.wire_commands.specs.ReplyText.{reply_text}
use Rattle.store_model.specs.Lanes.{bye, broken, front_next, command_next}
use Rattle.store_history.specs.LaneRun.{may_want}
use Rattle.lane.specs.Fronts.{IsJobs, next_in, IsCommandAhead, IsLastAhead, IsAhead, IsFrontSize, ahead_of}

-- ---- replies with a spelling

pub bad_frame_has_text : (offset : ℕ) → offset < 2 ^ 64 → ReplyHasText (Refused (BadFrame offset))
unfolding reply_text refusal_text
bad_frame_has_text offset lt = (lt, omega arith)

pub too_long_has_text : (n : ℕ) → n < 2 ^ 32 → ReplyHasText (Refused (TooLong n))
unfolding reply_text refusal_text
too_long_has_text n lt = (lt, omega arith)

-- ---- the front

front_is : (bytes : List ℕ) (f : Front) → cut bytes ≡ f → f ≢ short → front bytes ≡ cut_front f
unfolding front
front_is [] f is seen = absurd (seen (sym is ∙ cut-few [] (omega arith)))
front_is (b ∷ bytes) f is seen = ap cut_front is

whole_seen : (body rest : List ℕ) → whole body rest ≢ short
whole_seen body rest h = cc

long_seen : (n : ℕ) → too_long n ≢ short
long_seen n h = cc

next_is : (t : Tail) (f : Front) → cut t.bytes ≡ f → f ≢ short → next_in t ≡ front_next t.offset (cut_front f)
next_is t f is seen = ap (front_next t.offset) (front_is t.bytes f is seen)

pub long_ahead : (t : Tail) (n : ℕ) → cut t.bytes ≡ too_long n → IsLastAhead t (broken (TooLong n))
unfolding front_next
long_ahead t n is = record { next = next_is t (too_long n) is (long_seen n); seen = λ h. long_seen n (sym is ∙ h) }

pub broken_ahead : (t : Tail) (body rest : List ℕ) → cut t.bytes ≡ whole body rest → command_of body ≡ None → IsLastAhead t (broken (BadFrame t.offset))
unfolding front_next
broken_ahead t body rest is none = record {
  next = next_is t (whole body rest) is (whole_seen body rest) ∙ ap (λ c. front_next t.offset (body_front c rest)) none;
  seen = λ h. whole_seen body rest (sym is ∙ h);
}

advanced_is : (t : Tail) (body rest : List ℕ) → cut t.bytes ≡ whole body rest → advanced t ≡ record { offset = t.offset + (4 + length body); bytes = rest }
advanced_is t body rest is = ap (advanced_by t) is

-- ---- where memory may be wanting

both : (a b : Bool) → a ≡ true → b ≡ true → (a && b) ≡ true
both a b p q = ap (λ x. x && b) p ∙ q

wants : (bytes : List ℕ) → 4 ≤ length bytes → 2 ≤ from_le_bytes w32 (take 4 bytes) → may_want bytes ≡ true
unfolding may_want
wants bytes held two =
    both (nat_le 4 (length bytes)) (nat_le 2 (from_le_bytes w32 (take 4 bytes))) (grind (arith, nat_tests)) (grind (arith, nat_tests))

pub whole_wants : (bytes body rest : List ℕ) → cut bytes ≡ whole body rest → 2 ≤ length body → may_want bytes ≡ true
whole_wants bytes body rest is two =
    let w = cut-whole bytes body rest is in
    let size : length body ≤ from_le_bytes w32 (take 4 bytes) = omega (arith, ap length ((w.behind).body_is), length-take {A = ℕ}) in
    wants bytes w.enough (omega arith)

-- ---- a command

next_bye : (rest : List ℕ) → command_next commands.Bye rest ≡ bye
unfolding command_next
next_bye rest = refl

-- a PRUNE has a text, and more
prune_two : (body group : List ℕ) (keep : Keep) (dry : Bool) → body ≡ command_text (commands.Prune group keep dry) → 2 ≤ length body
unfolding command_text
prune_two body group keep dry is = let size = ap length is in omega (arith, size)

-- so has a command of one text, behind its code
verify_two : (body snapshot : List ℕ) → body ≡ command_text (commands.Verify snapshot) → 2 ≤ length body
unfolding command_text
verify_two body snapshot is = let size = ap length is in omega (arith, size)

sync_two : (body group : List ℕ) → body ≡ command_text (commands.Sync group) → 2 ≤ length body
unfolding command_text
sync_two body group is = let size = ap length is in omega (arith, size)

pub command_ahead : (t : Tail) (body rest : List ℕ) (c : Command) → cut t.bytes ≡ whole body rest → command_of body ≡ Some c → body ≡ command_text c → IsAhead t (ahead_of c)
unfolding front_next
command_ahead t body rest c is some spelled = by_command c (next_is t (whole body rest) is (whole_seen body rest) ∙ ap (λ o. front_next t.offset (body_front o rest)) some) spelled
  where
    seen : cut t.bytes ≢ short
    seen h = whole_seen body rest (sym is ∙ h)

    past : advanced t ≡ record { offset = t.offset + (4 + length body); bytes = rest }
    past = advanced_is t body rest is

    other : (d : Command) → next_in t ≡ command_next d rest → d ≢ commands.Bye → (IsJobs d → 2 ≤ length body) → IsCommandAhead t d
    other d next ne two = record {
      next = next ∙ ap (λ (s : Tail). command_next d s.bytes) (sym past);
      other = ne;
      wants = λ job. whole_wants t.bytes body rest is (two job);
      behind = omega (arith, ap (λ (s : Tail). s.offset) past);
      rest = omega (arith, ap (λ (s : Tail). s.offset) past, ap (λ (s : Tail). length s.bytes) past, cut-length t.bytes body rest is);
    }

    -- no job's
    alone : (d : Command) → next_in t ≡ command_next d rest → d ≢ commands.Bye → (IsJobs d → ⊥) → IsCommandAhead t d
    alone d next ne none = other d next ne (λ job. absurd (none job))

    by_command : (d : Command) → next_in t ≡ command_next d rest → body ≡ command_text d → IsAhead t (ahead_of d)
    by_command commands.Bye next text = record { next = next ∙ next_bye rest; seen = seen }
    by_command (commands.Prune group keep dry) next text = other (commands.Prune group keep dry) next (λ h. cc) (λ job. prune_two body group keep dry text)
    by_command (commands.Verify snapshot) next text = other (commands.Verify snapshot) next (λ h. cc) (λ job. verify_two body snapshot text)
    by_command (commands.Sync group) next text = other (commands.Sync group) next (λ h. cc) (λ job. sync_two body group text)
    by_command d next text = alone d next (λ h. cc) (λ job. job)

-- ---- past a frame

pub whole_size : (t : Tail) (body rest : List ℕ) → cut t.bytes ≡ whole body rest → IsFrontSize t (4 + length body)
whole_size t body rest is =
    let past = advanced_is t body rest is in
    record {
      offset = ap (λ (s : Tail). s.offset) past;
      rest = omega (arith, ap (λ (s : Tail). s.offset) past, ap (λ (s : Tail). length s.bytes) past, cut-length t.bytes body rest is);
    }

-- ---- behind five bytes of a part of a frame

-- a part of a frame of which five bytes are held has a length of at least two
part_two : (bytes : List ℕ) → 5 ≤ length bytes → cut bytes ≡ short → 2 ≤ from_le_bytes w32 (take 4 bytes)
part_two bytes five part = by_size (nat_le 2 (from_le_bytes w32 (take 4 bytes))) refl
  where
    by_size : (b : Bool) → nat_le 2 (from_le_bytes w32 (take 4 bytes)) ≡ b → 2 ≤ from_le_bytes w32 (take 4 bytes)
    by_size true is = grind (arith, nat_tests)
    by_size false is =
        let small : from_le_bytes w32 (take 4 bytes) < 2 = grind (arith, nat_tests) in
        let behind : from_le_bytes w32 (take 4 bytes) ≤ length (drop 4 bytes) = omega (arith, length-drop {A = ℕ}) in
        absurd (whole_seen (take (from_le_bytes w32 (take 4 bytes)) (drop 4 bytes)) (drop (from_le_bytes w32 (take 4 bytes)) (drop 4 bytes))
        (sym (cut-is_whole bytes (take 4 bytes) (drop 4 bytes) (from_le_bytes w32 (take 4 bytes)) (omega arith) refl refl refl (omega arith) behind) ∙ part))

pub part_wants : (bytes more : List ℕ) → 5 ≤ length bytes → cut bytes ≡ short → may_want (bytes ++ more) ≡ true
part_wants bytes more five part =
    wants (bytes ++ more) (omega (arith, length-append bytes more))
    (subst (λ xs. 2 ≤ from_le_bytes w32 xs) (sym (take-append-le 4 bytes more (omega arith))) (part_two bytes five part))
