use Rattle.std.proofs.Common.{rules}
use Rattle.std.proofs.lemmas.List.Sorted.{answers_always}
use Rattle.atime_book.proofs.Rising.{place_is}
use Rattle.atime_book.proofs.parts.place_of.Goals as goal

pub returns : goal.returns
returns c =
    place_is c.args.part.now c.args.digest.now c.binary_search_by_key.result c.requires c.binary_search_by_key.ensures.bound
    (c.binary_search_by_key.ensures.position (λ t. t.digest) (answers_always _ _ _ (λ f a r g called. search rules)))
