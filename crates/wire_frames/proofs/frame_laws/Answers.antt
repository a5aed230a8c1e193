use Rattle.wire_frames.proofs.FramesLemmas.{cut-frame, cut-was_frame, frames_of-written, frames_of-next, frames_by_pieces-all}
use Rattle.wire_frames.proofs.frame_laws.Goals as goal

pub returns : goal.returns
returns c = record {
  written = cut-frame;
  read = cut-was_frame;
  stream = frames_of-written;
  next = frames_of-next;
  pieces = frames_by_pieces-all;
}
