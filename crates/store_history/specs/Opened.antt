-- What a history begins with, where a disk was opened.
use Rattle.std.specs.Prelude.{List}
use Rattle.disk_trait.specs.declared.disk.Disk.{Ghosts}
use Rattle.store_files.specs.Archive.{Snapshot}
use Rattle.store_model.specs.Clash.{chunk_pieces}
use Rattle.store_history.specs.History.{Opening}
use Rattle.store_history.specs.Saved.{saved_book}

-- the snapshots that the disk stood for, the saved book, the disk's calls once it was opened, and the pieces of the chunk files
abbrev pub opening_of : {D : Type 0} → Ghosts D → D → D → List Snapshot → Opening
opening_of d old new snapshots = record {
  snapshots = snapshots;
  moment = (saved_book (d.content old)).moment;
  touches = (saved_book (d.content old)).touches;
  calls = d.calls new;
  chunks = chunk_pieces (d.content old);
}
