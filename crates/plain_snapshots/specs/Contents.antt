-- What a file's content means.
use Rattle.std.specs.Prelude.{Bool, true, false}
use Rattle.store_files.specs.Archive as model
use Rattle.plain_snapshots.specs.declared.file.Content.{Content}
use Rattle.plain_snapshots.specs.declared.file.Content.TheVariants.{Archive, Blob}

abbrev pub shown_content : Content → model.Content
shown_content (Archive a) = model.archive a
shown_content (Blob bytes) = model.blob bytes

abbrev pub is_archive : model.Content → Bool
is_archive (model.archive a) = true
is_archive (model.blob bytes) = false
