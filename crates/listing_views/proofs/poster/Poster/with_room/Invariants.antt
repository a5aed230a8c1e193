use Rattle.std.proofs.Common.{[]}
use Rattle.listing_views.proofs.poster.Poster.with_room.Given as goal

abbrev pub ghosts-show_as : goal.ghosts-show_as
ghosts-show_as g a = record { history = [] }
