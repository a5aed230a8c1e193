-- Where memory may be wanting, a command or something else is next, but neither BYE nor the end of the input.
use Rattle.std.proofs.Common.{◌≡◌, ℕ, ◌-◌, ◌≤◌, Bool, true, false, not, ◌&&◌, List, [], ◌∷◌, length, take, drop, Option, Some, None, ◌||◌, is_none, refl, sym, ap, subst, ◌∙◌, arith, if◌then◌else◌, ◌==◌, nat_lt, nat_le}
use Rattle.std.specs.Int.{Width, w32, w64, from_le_bytes}
use Rattle.std.proofs.lemmas.Bool.{ltb-false, eqb-true}
use Rattle.std.proofs.lemmas.Bool.Decides.{nat_tests}
use Rattle.std.proofs.lemmas.List.{length-take}
use Rattle.store_types.specs.Chain.Reading.{◌>>=◌, only_if}
use Rattle.wire_frames.specs.Frames.{short, too_long, whole, cut, cut_body, body_limit}
use Rattle.wire_commands.specs.declared.command.Command.{Command}
use Rattle.wire_commands.specs.declared.command.Command.TheVariants as commands
use Rattle.wire_commands.specs.Fields.{text_at, number_at, byte_at, digest_at, rows_at, flag_at}
use Rattle.wire_commands.specs.Fields as fields
use Rattle.wire_commands.specs.CommandText.{nothing_more, one_text, text_and_offset, new_fixed, chunk, entry_at, append, close_index, blob, get_chunk, range, keep_at, prune, fields_of, command_of}
use Rattle.wire_commands.specs.Inputs.{front, cut_front, body_front}
use Rattle.store_model.specs.Job.{Asking}
use Rattle.store_model.specs.Lanes.{Next, bye, end, front_next, command_next}
use Rattle.store_history.specs.LaneRun.{Task, steps, pulls, sweeps, Ahead, ahead, ahead_by, Position, next_at, may_want, is_stopping, stops, wants_by, may_want_at, may_step, IsIdle}
use Rattle.store_history.specs.Pulling.{Pulling, is_ending}

-- ---- a body of at least two bytes is no BYE

IsNotBye : Option Command → Type 0
IsNotBye (Some commands.Bye) = ⊥
IsNotBye o = Unit {0}

either : (b : Bool) (x y : Option Command) → IsNotBye x → IsNotBye y → IsNotBye (if b then x else y)
either true x y h g = h
either false x y h g = g

bound : {A : Type 0} (o : Option A) (f : A → Option Command) → ((x : A) → IsNotBye (f x)) → IsNotBye (o >>= f)
unfolding IsNotBye
bound None f h = tt
bound (Some x) f h = h x

close_not_bye : (bytes : List ℕ) → IsNotBye (close_index bytes)
unfolding IsNotBye close_index
close_not_bye bytes =
    bound (byte_at bytes) _ (λ n. bound (number_at w64 n.1) _ (λ c. bound (number_at w64 c.1) _ (λ s. bound (fields.whole (digest_at s.1)) _ (λ d. tt))))

-- a text and two numbers
numbers_not_bye : (make : List ℕ → ℕ → ℕ → Command) (w : Width) (bytes : List ℕ) → ((t : List ℕ) (m n : ℕ) → IsNotBye (Some (make t m n)))
    → IsNotBye (text_at bytes >>= (λ t. number_at w64 t.1 >>= (λ m. fields.whole (number_at w m.1) >>= (λ n. Some (make t.0 m.0 n)))))
unfolding IsNotBye
numbers_not_bye make w bytes made =
    bound (text_at bytes) _ (λ t. bound (number_at w64 t.1) _ (λ m. bound (fields.whole (number_at w m.1)) _ (λ n. made t.0 m.0 n)))

prune_not_bye : (bytes : List ℕ) → IsNotBye (prune bytes)
unfolding IsNotBye prune
prune_not_bye bytes =
    bound (text_at bytes) _ (λ g. bound (keep_at g.1) _ (λ k. bound (fields.whole (flag_at k.1)) _ (λ d. tt)))

offset_not_bye : (make : List ℕ → ℕ → Command) (bytes : List ℕ) → ((t : List ℕ) (n : ℕ) → IsNotBye (Some (make t n))) → IsNotBye (text_and_offset make bytes)
unfolding IsNotBye text_and_offset
offset_not_bye make bytes made = bound (text_at bytes) _ (λ t. bound (fields.whole (number_at w64 t.1)) _ (λ n. made t.0 n))

fields_not_bye : (code : ℕ) (bytes : List ℕ) → 1 ≤ length bytes → IsNotBye (fields_of code bytes)
unfolding IsNotBye fields_of one_text new_fixed blob nothing_more chunk append get_chunk range
fields_not_bye code bytes more =
    either (code == 10) (one_text commands.OpenWriter bytes) _ (bound (fields.whole (text_at bytes)) (λ t. Some (commands.OpenWriter t)) (λ t. tt))
    (either (code == 11) (text_and_offset commands.Previous bytes) _ (offset_not_bye commands.Previous bytes (λ t n. tt))
    (either (code == 12) (new_fixed bytes) _ (numbers_not_bye commands.NewFixed w64 bytes (λ t m n. tt))
    (either (code == 13) (one_text commands.NewDynamic bytes) _ (bound (fields.whole (text_at bytes)) (λ t. Some (commands.NewDynamic t)) (λ t. tt))
    (either (code == 14) (chunk bytes) _ (bound (digest_at bytes) (λ d. Some (commands.Chunk d.0 d.1)) (λ d. tt))
    (either (code == 15) (append bytes) _
    (bound (byte_at bytes) (λ n. fields.whole (rows_at entry_at n.1) >>= λ es. Some (commands.Append n.0 es))
    (λ n. bound (fields.whole (rows_at entry_at n.1)) (λ es. Some (commands.Append n.0 es)) (λ es. tt)))
    (either (code == 16) (close_index bytes) _ (close_not_bye bytes)
    (either (code == 17) (blob bytes) _ (bound (text_at bytes) (λ t. Some (commands.Blob t.0 t.1)) (λ t. tt))
    (either (code == 18) (nothing_more commands.Finish bytes) _ (either (length bytes == 0) (Some commands.Finish) None tt tt)
    (either (code == 19) (nothing_more commands.Abort bytes) _ (either (length bytes == 0) (Some commands.Abort) None tt tt)
    (either (code == 20) (one_text commands.OpenReader bytes) _ (bound (fields.whole (text_at bytes)) (λ t. Some (commands.OpenReader t)) (λ t. tt))
    (either (code == 21) (text_and_offset commands.Download bytes) _ (offset_not_bye commands.Download bytes (λ t n. tt))
    (either (code == 22) (get_chunk bytes) _ (bound (fields.whole (digest_at bytes)) (λ d. Some (commands.GetChunk d)) (λ d. tt))
    (either (code == 23) (range bytes) _ (numbers_not_bye commands.Range w32 bytes (λ t m n. tt))
    (either (code == 24) (nothing_more commands.CloseReader bytes) _ (either (length bytes == 0) (Some commands.CloseReader) None tt tt)
    (either (code == 30) (one_text commands.List bytes) _ (bound (fields.whole (text_at bytes)) (λ t. Some (commands.List t)) (λ t. tt))
    (either (code == 31) (one_text commands.Files bytes) _ (bound (fields.whole (text_at bytes)) (λ t. Some (commands.Files t)) (λ t. tt))
    (either (code == 32) (one_text commands.Forget bytes) _ (bound (fields.whole (text_at bytes)) (λ t. Some (commands.Forget t)) (λ t. tt))
    (either (code == 33) (prune bytes) _ (prune_not_bye bytes)
    (either (code == 34) (one_text commands.Verify bytes) _ (bound (fields.whole (text_at bytes)) (λ t. Some (commands.Verify t)) (λ t. tt))
    (either (code == 35) (one_text commands.Sync bytes) _ (bound (fields.whole (text_at bytes)) (λ t. Some (commands.Sync t)) (λ t. tt))
    (either (code == 36) (nothing_more commands.Gc bytes) _ (either (length bytes == 0) (Some commands.Gc) None tt tt)
    (either (code == 40) (one_text commands.Group bytes) _ (bound (fields.whole (text_at bytes)) (λ t. Some (commands.Group t)) (λ t. tt))
    (either (code == 63) (nothing_more commands.Bye bytes) None (last (length bytes == 0) refl) tt)))))))))))))))))))))))
  where
    last : (b : Bool) → (length bytes == 0) ≡ b → IsNotBye (if b then Some commands.Bye else None)
    last true is = let none : length bytes ≡ 0 = eqb-true (length bytes) 0 is in absurd (omega arith)
    last false is = tt

body_not_bye : (body : List ℕ) → 2 ≤ length body → IsNotBye (command_of body)
unfolding command_of
body_not_bye [] two = absurd (omega arith)
body_not_bye (b ∷ bytes) two =
    bound (only_if (nat_le (length (b ∷ bytes)) body_limit)) (λ x. fields_of b bytes) (λ x. fields_not_bye b bytes (omega arith))

-- ---- what is next

-- neither BYE nor the end of the input is next
abbrev pub Goes : Ahead → Type 0
Goes (ahead bye) = ⊥
Goes (ahead end) = ⊥
Goes n = Unit {0}

body_goes : (m : ℕ) (o : Option Command) (rest : List ℕ) → IsNotBye o → Goes (ahead (front_next m (body_front o rest)))
unfolding IsNotBye front_next command_next
body_goes m None rest h = tt
body_goes m (Some commands.Bye) rest h = h
body_goes m (Some c) rest h = tt

behind_goes : (m n : ℕ) (bytes : List ℕ) → 2 ≤ n → Goes (ahead (front_next m (cut_front (cut_body n bytes))))
unfolding front_next
behind_goes m n bytes two = by_limit (nat_lt body_limit n)
  where
    by_length : (b : Bool) → nat_lt (length bytes) n ≡ b → Goes (ahead (front_next m (cut_front (if b then short else whole (take n bytes) (drop n bytes)))))
    by_length true is = tt
    by_length false is =
        let held : n ≤ length bytes = ltb-false (length bytes) n is in
        let whole_body : 2 ≤ length (take n bytes) = simp length-take (omega arith) in
        body_goes m (command_of (take n bytes)) (drop n bytes) (body_not_bye (take n bytes) whole_body)

    by_limit : (b : Bool) → Goes (ahead (front_next m (cut_front (if b then too_long n else if nat_lt (length bytes) n then short else whole (take n bytes) (drop n bytes)))))
    by_limit true = tt
    by_limit false = by_length (nat_lt (length bytes) n) refl

both : (a b : Bool) → (a && b) ≡ true → (a ≡ true) × (b ≡ true)
both true true h = (refl, refl)
both true false h = cc
both false b h = cc

front_goes : (m : ℕ) (left : List ℕ) → may_want left ≡ true → Goes (ahead (front_next m (front left)))
unfolding may_want front cut
front_goes m [] h = cc
front_goes m (b ∷ bytes) h =
    let tests = both (nat_le 4 (length (b ∷ bytes))) (nat_le 2 (from_le_bytes w32 (take 4 (b ∷ bytes)))) h in
    let held : nat_lt (length (b ∷ bytes)) 4 ≡ false = grind (arith, nat_tests) in
    let two : 2 ≤ from_le_bytes w32 (take 4 (b ∷ bytes)) = grind (arith, nat_tests) in
    subst (λ t. Goes (ahead (front_next m (cut_front (if t then short else cut_body (from_le_bytes w32 (take 4 (b ∷ bytes))) (drop 4 (b ∷ bytes))))))) (sym held)
    (behind_goes m (from_le_bytes w32 (take 4 (b ∷ bytes))) (drop 4 (b ∷ bytes)) two)

pub want_goes : (p : Position) → IsIdle p.task → may_want_at p ≡ true → Goes (next_at p)
unfolding next_at
want_goes p idle h = by_task p.task idle h
  where
    by_task : (t : Option Task) → IsIdle t → wants_by t p.left ≡ true → Goes (ahead_by t (p.size - length p.left) p.left)
    by_task None idle h = front_goes (p.size - length p.left) p.left h
    by_task (Some (steps j)) idle h = tt
    by_task (Some (pulls x)) idle h = absurd idle
    by_task (Some (sweeps b)) idle h = tt

-- where it may be wanting for a frame
pub wants_frame : (p : Position) → p.task ≡ None → may_want p.left ≡ true → may_want_at p ≡ true
wants_frame p off may = ap (λ (t : Option Task). wants_by t p.left) off ∙ may

-- and where a job or a SYNC is open that goes on
pub wants_open : (p : Position) (j : Asking) → p.task ≡ Some (steps j) → is_stopping j ≡ false → may_want_at p ≡ true
wants_open p j is on = ap (λ (t : Option Task). wants_by t p.left) is ∙ ap not on

pub wants_pulling : (p : Position) (x : Pulling) → p.task ≡ Some (pulls x) → is_ending x ≡ false → may_want_at p ≡ true
wants_pulling p x is on = ap (λ (t : Option Task). wants_by t p.left) is ∙ ap not on

-- ---- a step

-- it may come where no answer was the last
pub may_on : (p : Position) → p.is_spent ≡ false → may_step p ≡ true
may_on p on = ap (λ b. not b || stops p.task) on
