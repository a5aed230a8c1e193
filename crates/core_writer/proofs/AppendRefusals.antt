-- What a session answers to APPEND, and what it keeps.
use Rattle.std.proofs.Common.{◌≡◌, ℕ, ◌+◌, Bool, true, false, length, Option, Some, None, List, [], ◌∷◌, Result, Ok, Err, IfErr, nat_le, refl, sym, ap, ◌∙◌}
use Rattle.std.specs.Prelude.{◌==◌}
use Rattle.store_types.specs.declared.names.Digest32.{Digest32}
use Rattle.store_types.specs.declared.piece.Piece.{Piece}
use Rattle.store_types.specs.declared.refusal.Refusal.{Refusal}
use Rattle.store_types.specs.declared.refusal.Refusal.TheVariants.{WrongState, NoFile, TooMany, WrongSize, UnknownChunk, BadOffset}
use Rattle.store_types.specs.declared.refusal.Refusal.TheVariants as refusals
use Rattle.store_types.specs.Chain.Refusing.{◌>>=◌, unless, or_else}
use Rattle.store_files.specs.Cells.{entry_limit}
use Rattle.store_files.specs.Archive.{Layout}
use Rattle.store_model.specs.Archives.{change_first, fits_layout, piece_named, pieces_named}
use Rattle.backup_session.specs.Session.{Open, Writing, Session, settled}
use Rattle.backup_session.specs.Answers.{Does}
use Rattle.backup_session.specs.Indexes.{layout_of, count_of, end_of}
use Rattle.backup_session.specs.Steps as rows
use Rattle.wire_commands.specs.HasText.{FitsRefusal, ReplyHasText}
use Rattle.wire_commands.specs.declared.reply.Reply.TheVariants.{Refused}
use Rattle.store_history.specs.Replies.{refuses_append}
use Rattle.snapshot_files.specs.Reads.{StopHasText}
use Rattle.store_stops.specs.Stops.{answered_of}
use Rattle.core_state.proofs.Texts.{bad_offset_has_text, no_file_has_text, too_many_has_text, unknown_chunk_has_text, wrong_size_has_text, wrong_state_has_text}

-- ---- the pieces that are named

module _ {A : Type 0} (find : Digest32 → Option A) (len : A → ℕ) (layout : Layout) (r : Refusal) where
  by_tests : (place end : ℕ) (x : A) (a b : Bool) → (unless (BadOffset place end) a >>= λ _. unless (WrongSize place (len x)) b >>= λ _. Ok x) ≡ Err r → refuses_append r ≡ true
  by_tests place end x false b e = let is : BadOffset place end ≡ r = cc in ap refuses_append (sym is)
  by_tests place end x true false e = let is : WrongSize place (len x) ≡ r = cc in ap refuses_append (sym is)
  by_tests place end x true true e = cc

  piece_refused : (place end : ℕ) (entry : Digest32 × ℕ) → piece_named find len layout place end entry ≡ Err r → refuses_append r ≡ true
  unfolding piece_named
  piece_refused place end entry is = by_found (find entry.0) is
    where
      by_found : (o : Option A)
          → (or_else (UnknownChunk place) o >>= λ x. unless (BadOffset place end) (entry.1 == end) >>= λ _. unless (WrongSize place (len x)) (fits_layout layout end (len x)) >>= λ _. Ok x) ≡ Err r
          → refuses_append r ≡ true
      by_found None e = let is : UnknownChunk place ≡ r = cc in ap refuses_append (sym is)
      by_found (Some x) e = by_tests place end x (entry.1 == end) (fits_layout layout end (len x)) e

  pieces_refused : (place end : ℕ) (entries : List (Digest32 × ℕ)) → pieces_named find len layout place end entries ≡ Err r → refuses_append r ≡ true
  unfolding pieces_named
  pieces_refused place end [] is = cc
  pieces_refused place end (entry ∷ entries) is =
      by_piece (piece_named find len layout place end entry) refl is (λ n. pieces_refused (place + 1) n entries)
    where
      by_rest : (a : A) (q : Result (List A) Refusal) → (q ≡ Err r → refuses_append r ≡ true) → (q >>= λ others. Ok (a ∷ others)) ≡ Err r → refuses_append r ≡ true
      by_rest a (Ok others) rest e = cc
      by_rest a (Err x) rest e = rest cc

      by_piece : (q : Result A Refusal) → piece_named find len layout place end entry ≡ q
          → (q >>= λ a. pieces_named find len layout (place + 1) (end + len a) entries >>= λ others. Ok (a ∷ others)) ≡ Err r
          → ((n : ℕ) → pieces_named find len layout (place + 1) n entries ≡ Err r → refuses_append r ≡ true) → refuses_append r ≡ true
      by_piece (Err x) f e rest = let is : x ≡ r = cc in piece_refused place end entry (f ∙ ap (λ y. Err y) is)
      by_piece (Ok a) f e rest = by_rest a (pieces_named find len layout (place + 1) (end + len a) entries) (rest (end + len a)) e

-- ---- the command

module _ (w : Writing) (number : ℕ) (entries : List (Digest32 × ℕ)) where
  abbrev left : List Piece → Result (Writing × Unit {0}) Refusal
  left known = Ok (record w { begun = change_first (rows.has_number number) (rows.grown known) w.begun }, tt)

  by_left : (r : Refusal) (q : Result (List Piece) Refusal) → (q ≡ Err r → refuses_append r ≡ true) → (q >>= λ known. left known) ≡ Err r → refuses_append r ≡ true
  by_left r (Ok known) rest e = cc
  by_left r (Err x) rest e = rest cc

  for_refused : (r : Refusal) (b : Open) → rows.pieces_for w.pool b.index entries ≡ Err r → refuses_append r ≡ true
  unfolding rows.pieces_for
  for_refused r b is = by_room (nat_le (length entries) 4096) (nat_le (count_of b.index + length entries) entry_limit) is
    where
      by_room : (a c : Bool) → ((unless (TooMany 4096) a >>= λ _. unless (TooMany entry_limit) c) >>= λ _. pieces_named (rows.known_in w.pool) (λ p. p.length) (layout_of b.index) 0 (end_of b.index) entries) ≡ Err r
          → refuses_append r ≡ true
      by_room false c e = let is : TooMany 4096 ≡ r = cc in ap refuses_append (sym is)
      by_room true false e = let is : TooMany entry_limit ≡ r = cc in ap refuses_append (sym is)
      by_room true true e = pieces_refused (rows.known_in w.pool) (λ p. p.length) (layout_of b.index) r 0 (end_of b.index) entries e

  pub append_refuses : (r : Refusal) → rows.append w number entries ≡ Err r → refuses_append r ≡ true
  unfolding rows.append
  append_refuses r is = by_begun (rows.begun_at number w) is
    where
      by_begun : (o : Option Open) → (or_else NoFile o >>= λ b. rows.pieces_for w.pool b.index entries >>= λ known. left known) ≡ Err r → refuses_append r ≡ true
      by_begun None e = let is : NoFile ≡ r = cc in ap refuses_append (sym is)
      by_begun (Some b) e = by_left r (rows.pieces_for w.pool b.index entries) (for_refused r b) e

  left_same : (x y : Writing) → ◌≡◌ {A = Result (Writing × Unit {0}) Refusal} (Ok (x, tt)) (Ok (y, tt)) → y ≡ x
  left_same x y e = let pairs : ◌≡◌ {A = Writing × Unit {0}} (x, tt) (y, tt) = cc in ap (λ p. p.0) (sym pairs)

  -- its snapshot stays
  pub append_key : (after : Writing) → rows.append w number entries ≡ Ok (after, tt) → after.key ≡ w.key
  unfolding rows.append
  append_key after is = by_begun (rows.begun_at number w) is
    where
      by_pieces : (q : Result (List Piece) Refusal) → (q >>= λ known. left known) ≡ Ok (after, tt) → after.key ≡ w.key
      by_pieces (Err x) e = cc
      by_pieces (Ok known) e = ap (λ (x : Writing). x.key) (left_same _ after e)

      by_begun : (o : Option Open) → (or_else NoFile o >>= λ b. rows.pieces_for w.pool b.index entries >>= λ known. left known) ≡ Ok (after, tt) → after.key ≡ w.key
      by_begun None e = cc
      by_begun (Some b) e = by_pieces (rows.pieces_for w.pool b.index entries) e

-- ---- their spelling

refused_text : (r : Refusal) → refuses_append r ≡ true → FitsRefusal r → ReplyHasText (Refused r)
refused_text (WrongState state) is fits = wrong_state_has_text state
refused_text NoFile is fits = no_file_has_text
refused_text (TooMany limit) is fits = too_many_has_text limit fits
refused_text (UnknownChunk place) is fits = unknown_chunk_has_text place fits
refused_text (BadOffset place expected) is fits = bad_offset_has_text place expected fits.0 fits.1
refused_text (WrongSize place found) is fits = wrong_size_has_text place found fits.0 fits.1
refused_text _ is fits = cc

pub stop_text : (old new : Session) (number : ℕ) (entries : List (Digest32 × ℕ)) (told : Result (Unit {0}) Refusal)
    → Does (λ u. u) settled old new told (rows.append old.writer number entries) → IfErr told FitsRefusal → IfErr (answered_of told) StopHasText
stop_text old new number entries (Ok u) does fits = tt
stop_text old new number entries (Err refusals.NoMemory) does fits = tt
stop_text old new number entries (Err r) does fits = refused_text r (append_refuses old.writer number entries r does.0) fits
