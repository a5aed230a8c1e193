use Rattle.std.proofs.Common.{◌∙◌, [], Some, refl, ap}
use Rattle.listing_views.specs.Listings.{rows}
use Rattle.shared_store.proofs.Coming.{comes_first}
use Rattle.shared_store.proofs.known.Known.new.Goals as goal

pub returns-clause-stands : goal.returns-clause-stands
returns-clause-stands g c = record {
  comes = comes_first g.D.Disk g.E.Disk g.C.Clock g.N.Origin.is c.args.core c.requires.origin c.requires.fresh;
  shown = [];
  rest = [];
  whole = refl;
  quiet = tt;
  posted_is = ap (λ es. Some (es, rows c.args.poster.writer.desk.shown.value)) c.requires.seen ∙ ap (λ r. Some ([], r)) c.requires.rows;
}
