-- The files that go with a session.
use Rattle.std.specs.Prelude.{List, []}
use Rattle.core_state.specs.declared.kept.StoredFile.{StoredFile}
use Rattle.core_state.specs.declared.kept.Session.{Session}
use Rattle.core_state.specs.declared.kept.Session.TheVariants.{Idle, Writer, Reader}

-- the files of the session's writer
abbrev pub files_in : Session → List StoredFile
files_in Idle = []
files_in (Writer w) = w.files
files_in (Reader r) = []
