-- What the parts of a plain store mean.
use Rattle.store_files.specs.Archive as model
use Rattle.plain_snapshots.specs.declared.archive.Layout.{Layout}
use Rattle.plain_snapshots.specs.declared.archive.Layout.TheVariants.{Dynamic, Fixed}

abbrev pub shown_layout : Layout → model.Layout
shown_layout Dynamic = model.dynamic
shown_layout (Fixed size chunk_size) = model.fixed size chunk_size
