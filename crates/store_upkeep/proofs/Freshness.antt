-- What touches leave of chunks that a visit does not take out.
use Rattle.std.proofs.Common.{◌≡◌, ◌≤◌, ℕ, Bool, true, false, cond, max, List, map, Option, Some, None, refl, sym, arith, true≢false, le-ltb, ltb-false}
use Rattle.std.specs.Prelude.{option_map}
use Rattle.std.specs.Str.{bytes_eq}
use Rattle.std.proofs.lemmas.Slice.Eq.{bytes_eq-Decides}
use Rattle.wire_commands.specs.declared.command.Command.TheVariants.{Append}
use Rattle.wire_commands.specs.declared.reply.Reply.{Reply}
use Rattle.wire_commands.specs.declared.reply.Reply.TheVariants.{Done}
use Rattle.atime_book.specs.Touches.{greatest, is_stale}
use Rattle.store_history.specs.declared.act.Act.{Act}
use Rattle.store_history.specs.declared.act.Act.TheVariants.{Plain, Chunk}
use Rattle.store_history.specs.declared.act.Event.{Event}
use Rattle.store_history.specs.History.{moment, reply}
use Rattle.store_history.specs.LastTouches.{LastTouches, is_one_of, touched, dated, touched_by, touches_after}
use Rattle.store_history.specs.Sweeping.{Sweep, Swept, marks_in, taken_in, without}
use Rattle.store_upkeep.specs.Safety.{In, IsFresh}
use Rattle.store_upkeep.proofs.Members.{in_is_one}

-- ---- of one chunk

-- a later cutoff takes more
pub fresh_lower : (last : Option ℕ) (b c : ℕ) → b ≤ c → is_stale last c ≡ false → is_stale last b ≡ false
fresh_lower None b c le is = refl
fresh_lower (Some when) b c le is = let above : c ≤ when = ltb-false when c is in le-ltb when b (omega arith)

raised : (m c : ℕ) (here : Bool) (last : Option ℕ) → is_stale last c ≡ false → is_stale (cond here (option_map (λ when. max when m) last) last) c ≡ false
raised m c true None is = refl
raised m c true (Some when) is = let above : c ≤ when = ltb-false when c is in le-ltb (max when m) c (omega arith)
raised m c false last is = is

came : (m c : ℕ) (here : Bool) (last : Option ℕ) → c ≤ m → is_stale last c ≡ false → is_stale (cond here (Some (greatest last m)) last) c ≡ false
came m c true None le is = le-ltb m c le
came m c true (Some when) le is = le-ltb (max when m) c (omega arith)
came m c false last le is = is

raised_now : (m c : ℕ) (here : Bool) (last : Option ℕ) → c ≤ m → here ≡ true → is_stale (cond here (option_map (λ when. max when m) last) last) c ≡ false
raised_now m c true None le h = refl
raised_now m c true (Some when) le h = le-ltb (max when m) c (omega arith)
raised_now m c false last le h = absurd (true≢false (sym h))

came_now : (m c : ℕ) (here : Bool) (last : Option ℕ) → c ≤ m → here ≡ true → is_stale (cond here (Some (greatest last m)) last) c ≡ false
came_now m c true None le h = le-ltb m c le
came_now m c true (Some when) le h = le-ltb (max when m) c (omega arith)
came_now m c false last le h = absurd (true≢false (sym h))

left_out : (c : ℕ) (here : Bool) (last : Option ℕ) → is_stale last c ≡ false → is_stale (cond here None last) c ≡ false
left_out c true last is = refl
left_out c false last is = is

-- ---- of the touches

-- what an act touches: a CHUNK that was done its chunk, and an APPEND the chunk of each entry
abbrev pub Touches : Act → Option Reply → List ℕ → Type 0
Touches (Chunk digest checked) (Some Done) d = d ≡ digest.0
Touches (Plain (Append number entries)) (Some Done) d = In d (map (λ e. (e.digest).0) entries)
Touches act r d = ⊥

-- of which a CHUNK sends
abbrev pub Sends : Act → Option Reply → List ℕ → Type 0
Sends (Chunk digest checked) (Some Done) d = d ≡ digest.0
Sends act r d = ⊥

touched_by_stays : (act : Act) (r : Option Reply) (m c : ℕ) (t : LastTouches) (d : List ℕ) → c ≤ m → IsFresh t c d → IsFresh (touched_by act r m t) c d
touched_by_stays (Chunk digest checked) (Some Done) m c t d le is = came m c (bytes_eq digest.0 d) (t.last d) le is
touched_by_stays (Plain (Append number entries)) (Some Done) m c t d le is = raised m c (is_one_of d (map (λ e. (e.digest).0) entries)) (t.last d) is
touched_by_stays act r m c t d le is = is

touched_by_now : (act : Act) (r : Option Reply) (m c : ℕ) (t : LastTouches) (d : List ℕ) → c ≤ m → Touches act r d → IsFresh (touched_by act r m t) c d
touched_by_now (Chunk digest checked) (Some Done) m c t d le is = came_now m c (bytes_eq digest.0 d) (t.last d) le ((bytes_eq-Decides digest.0 d).1 (sym is))
touched_by_now (Plain (Append number entries)) (Some Done) m c t d le is =
    raised_now m c (is_one_of d (map (λ e. (e.digest).0) entries)) (t.last d) le (in_is_one d (map (λ e. (e.digest).0) entries) is)
touched_by_now act r m c t d le is = absurd is

dated_stays : (m c : ℕ) (t : LastTouches) (d : List ℕ) → IsFresh t c d → IsFresh (dated m t) c d
dated_stays m c t d is = raised m c (t.undated d) (t.last d) is

pub tended_stays : (e : Event) (c : ℕ) (t : LastTouches) (d : List ℕ) → c ≤ moment e → IsFresh t c d → IsFresh (touches_after t e) c d
tended_stays e c t d le is =
    dated_stays (moment e) c (touched_by e.act (reply e) (moment e) t) d (touched_by_stays e.act (reply e) (moment e) c t d le is)

pub tended_now : (e : Event) (c : ℕ) (t : LastTouches) (d : List ℕ) → c ≤ moment e → Touches e.act (reply e) d → IsFresh (touches_after t e) c d
tended_now e c t d le is =
    dated_stays (moment e) c (touched_by e.act (reply e) (moment e) t) d (touched_by_now e.act (reply e) (moment e) c t d le is)

without_stays : (taken : Option (List ℕ)) (c : ℕ) (t : LastTouches) (d : List ℕ) → IsFresh t c d → IsFresh (without taken t) c d
without_stays None c t d is = is
without_stays (Some digest) c t d is = left_out c (bytes_eq digest d) (t.last d) is

-- ---- of an event, which may be a mark or a visit of this sweep

abbrev pub touches_with : Swept → Event → Option Sweep → LastTouches
touches_with s e sweep = without (taken_in s sweep) (touched (λ d. is_one_of d (marks_in sweep)) (moment e) (touches_after s.touches e))

marked_stays : (s : Swept) (e : Event) (sweep : Option Sweep) (c : ℕ) (d : List ℕ) → IsFresh (touches_after s.touches e) c d → IsFresh (touches_with s e sweep) c d
marked_stays s e sweep c d is =
    let t = touches_after s.touches e in
    without_stays (taken_in s sweep) c (touched (λ d. is_one_of d (marks_in sweep)) (moment e) t) d (raised (moment e) c (is_one_of d (marks_in sweep)) (t.last d) is)

pub stays_fresh : (s : Swept) (e : Event) (sweep : Option Sweep) (c : ℕ) (d : List ℕ) → c ≤ moment e → IsFresh s.touches c d → IsFresh (touches_with s e sweep) c d
stays_fresh s e sweep c d le is = marked_stays s e sweep c d (tended_stays e c s.touches d le is)

pub is_fresh_now : (s : Swept) (e : Event) (sweep : Option Sweep) (c : ℕ) (d : List ℕ) → c ≤ moment e → Touches e.act (reply e) d → IsFresh (touches_with s e sweep) c d
is_fresh_now s e sweep c d le is = marked_stays s e sweep c d (tended_now e c s.touches d le is)

pub is_marked_now : (s : Swept) (e : Event) (sweep : Option Sweep) (c : ℕ) (d : List ℕ) → c ≤ moment e → In d (marks_in sweep) → IsFresh (touches_with s e sweep) c d
is_marked_now s e sweep c d le is =
    let t = touches_after s.touches e in
    without_stays (taken_in s sweep) c (touched (λ d. is_one_of d (marks_in sweep)) (moment e) t) d
    (raised_now (moment e) c (is_one_of d (marks_in sweep)) (t.last d) le (in_is_one d (marks_in sweep) is))
