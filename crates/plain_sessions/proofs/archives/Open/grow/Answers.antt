use Rattle.std.proofs.Common.{List, get_or, set, ap, sym, ◌∙◌}
use Rattle.std.proofs.lemmas.Result.{on_ok_weaker}
use Rattle.store_model.specs.Store.{Begun}
use Rattle.store_model.specs.WriterCalls.{has_number, with_pieces}
use Rattle.plain_sessions.proofs.Opened.{changed_there, place_none}
use Rattle.plain_sessions.proofs.archives.Open.grow.Goals as goal

pub returns-in-Some-clause-ok : goal.returns-in-Some-clause-ok
returns-in-Some-clause-ok c =
    let number = c.args.number in
    let place = c.in-Some.place in
    let more = with_pieces c.args.pieces.items in
    let asked = sym c.place_of.ensures ∙ c.in-Some.is in
    on_ok_weaker c.grow.result
    (λ grown. ap (λ (l : List Begun). set l place c.grow.new.self) c.self.view_is
    ∙ changed_there (has_number number) c.args.self.now more c.grow.new.self c.index_mut.result.now place asked (grown ∙ ap more (c.index_mut.ensures.value ∙ ap (λ (l : List Begun). get_or l place c.index_mut.result.now) c.self.view_is)))
    c.grow.ensures.ok

pub returns-in-None-clause-ok : goal.returns-in-None-clause-ok
returns-in-None-clause-ok c =
    sym ((place_none (has_number c.args.number) c.args.self.now (sym c.place_of.ensures ∙ c.in-None.is)).0 (with_pieces c.args.pieces.items))
