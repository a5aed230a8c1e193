use Rattle.shared_store.proofs.known.show_next.Given as goal

abbrev pub ghost-post : goal.ghost-post
ghost-post g a = g.whole
