use Rattle.std.proofs.Common.{◌≡◌, drop}
use Rattle.std.specs.List.{flat_map}
use Rattle.store_files.specs.Archive.{piece_with}
use Rattle.store_model.specs.ReaderSteps.{pieces_at, noted_pieces}
use Rattle.plain_sessions.proofs.reader.Reader.noted_piece.Given as goal

abbrev pub invariant-loop-name : goal.invariant-loop-name
invariant-loop-name l = piece_with l.digest (flat_map (pieces_at l.files) (drop l.name-index l.self.noted)) ≡ piece_with l.digest (noted_pieces l.files l.self)
