-- A writer that may name more pieces is sound, and its files are there.
use Rattle.std.proofs.Common.{ℕ, List, [], ◌∷◌, ◌++◌, get_or}
use Rattle.std.proofs.lemmas.List.Elements.{All-append, Contains-append_left}
use Rattle.std.specs.List.{All, AllByRecursion, Contains}
use Rattle.disk_trait.specs.Files.{Files}
use Rattle.store_files.specs.Archive.{pieces_of}
use Rattle.store_files.specs.Folder.{IsPiece}
use Rattle.store_model.specs.Store.{Begun, Store, Writer}
use Rattle.store_model.specs.WriterSteps.{with_pool}
use Rattle.store_history.specs.ChunkFiles.{HasChunk}
use Rattle.core_state.specs.Holds.{IsBegun, IsWriter, HasUploads}

more : (pool new ps : List (List ℕ)) → All (Contains pool) ps → All (Contains (pool ++ new)) ps
more pool new ps all = λ i d lt. Contains-append_left pool new (get_or ps i d) (all i d lt)

begun_more : (pool new : List (List ℕ)) (bs : List Begun) → AllByRecursion (IsBegun pool) bs → AllByRecursion (IsBegun (pool ++ new)) bs
begun_more pool new [] h = tt
begun_more pool new (b ∷ bs) h = let o = h.0 in (
  record {
    is_open = o.is_open;
    uuid = o.uuid;
    ctime = o.ctime;
    reserved = o.reserved;
    limit = o.limit;
    pieces = more pool new (b.archive).pieces o.pieces;
  },
  begun_more pool new bs h.1,
)

pub is_writer_pooled : (s : Store) (w : Writer) (new : List (List ℕ)) → All IsPiece new → IsWriter s.snapshots w → IsWriter s.snapshots (with_pool new w)
is_writer_pooled s w new are h = record {
  key = h.key;
  newer = h.newer;
  room = h.room;
  names = h.names;
  kinds = h.kinds;
  contents = h.contents;
  count = h.count;
  pool = All-append IsPiece w.pool new h.pool are;
  begun = begun_more w.pool new w.begun h.begun;
  pooled = λ i d lt. more w.pool new (pieces_of (get_or w.files i d).content) (h.pooled i d lt);
  free = h.free;
  differ = h.differ;
}

pub has_uploads_pooled : (m : Files) (w : Writer) (new : List (List ℕ)) → All (HasChunk m) new → HasUploads m w → HasUploads m (with_pool new w)
has_uploads_pooled m w new there h = record { files = h.files; pool = All-append (HasChunk m) w.pool new h.pool there }
