-- What is put into a sink, by what it has taken before and after.
use Rattle.std.specs.Prelude.{ℕ, List, ◌++◌, Option, Result, is_ok}
use Rattle.std.specs.List.{flat_map}
use Rattle.port_traits.specs.Bytes.{Writes, WritesCounted}
use Rattle.wire_frames.specs.Frames.{frame}
use Rattle.wire_commands.specs.declared.reply.Reply.{Reply}
use Rattle.wire_commands.specs.ReplyText.{reply_text}

-- the reply's frame, whole where the call did not fail
abbrev pub PutsFrame : {K A E : Type 0} → (K → Option (List ℕ)) → K → K → Reply → Result A E → Type 0
PutsFrame taken old new reply result = Writes (taken old) (taken new) (frame (reply_text reply)) (is_ok result)

-- ---- with a count of the bytes before and after

abbrev pub PutsReply : {K A E : Type 0} → (K → Option (List ℕ)) → K → K → ℕ → ℕ → Reply → Result A E → Type 0
PutsReply taken old new before after reply result = WritesCounted (taken old) (taken new) before after (frame (reply_text reply)) (is_ok result)

-- values, one after another
abbrev pub Puts : {K R A E : Type 0} → (K → Option (List ℕ)) → K → K → ℕ → ℕ → (R → List ℕ) → List R → Result A E → Type 0
Puts taken old new before after spelled rows result = WritesCounted (taken old) (taken new) before after (flat_map spelled rows) (is_ok result)

-- a frame of a head and values behind it
abbrev pub PutsRows : {K R A E : Type 0} → (K → Option (List ℕ)) → K → K → ℕ → ℕ → List ℕ → (R → List ℕ) → List R → Result A E → Type 0
PutsRows taken old new before after head spelled rows result =
    WritesCounted (taken old) (taken new) before after (frame (head ++ flat_map spelled rows)) (is_ok result)
