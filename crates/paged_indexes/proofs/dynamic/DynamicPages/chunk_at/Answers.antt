use Rattle.std.proofs.Common.{◌≡◌, ◌+◌, ◌*◌, List, ℕ, Option, Some, None, Ok, inl, inr, refl, sym, ap, ◌∙◌, rules}
use Rattle.index_pages.specs.Gives.{Gives}
use Rattle.index_pages.specs.Paged.{page_at}
use Rattle.index_pages.proofs.Carried.{by_err}
use Rattle.index_pages.proofs.Filled.{gives_err}
use Rattle.paged_indexes.specs.Dynamic.{DynamicPaged, chunk_by, chunk_in, place_in}
use Rattle.paged_indexes.specs.Steps.{ended_before, entries_of, page_with}
use Rattle.paged_indexes.proofs.dynamic.DynamicPages.chunk_at.Goals as goal

pub returns-in_default-clause-exact : goal.returns-in_default-clause-exact
unfolding chunk_in
returns-in_default-clause-exact g c = let d = g.D.Disk in λ h.
    let p = c.args.self.now in
    let offset = c.args.offset in
    let none : c.page_with.result ≡ None = search rules in
    let at : page_with offset p.ends ≡ None =
    sym (ap (λ (q : DynamicPaged). page_with offset q.ends) c.self.view_is) ∙ ap (page_with offset) (sym c.deref.ensures.value) ∙ sym c.page_with.ensures.value ∙ none in
    ap (chunk_by (d.content c.args.disk.now) p.pages offset) at

pub returns-in_err-read-clause-exact : goal.returns-in_err-read-clause-exact
unfolding chunk_in
returns-in_err-read-clause-exact g c = let d = g.D.Disk in λ h.
    let p = c.args.self.now in
    let offset = c.args.offset in
    let i = c.in-Some.i in
    let m = d.content c.args.disk.now in
    let at : page_with offset p.ends ≡ Some i =
    sym (ap (λ (q : DynamicPaged). page_with offset q.ends) c.self.view_is) ∙ ap (page_with offset) (sym c.deref.ensures.value) ∙ sym c.page_with.ensures.value ∙ c.in-Some.is in
    let same = ap (λ (q : DynamicPaged). page_at m q.pages i) c.self.view_is in
    by_err c.from_residual.result c.in_err-read.field-0.0 (λ r. Gives (λ (found : Option ℕ). found) r (chunk_by m p.pages offset (page_with offset p.ends))) c.from_residual.ensures.1
    (gives_err {A = Unit {0}} {B = List ℕ} {C = Option ℕ} {E = Option ℕ} (λ _. c.read.new.into) (λ found. found) c.in_err-read.field-0.0 (page_at m c.self.inside.pages i)
    (chunk_by m p.pages offset (page_with offset p.ends)) (c.in_err-read.ensures.exact h)
    (λ e. ap (chunk_by m p.pages offset) at ∙ ap (place_in i offset) (sym same ∙ e)))

pub returns-clause-exact : goal.returns-clause-exact
unfolding chunk_in
returns-clause-exact g c = let d = g.D.Disk in λ h.
    let p = c.args.self.now in
    let offset = c.args.offset in
    let i = c.in-Some.i in
    let m = d.content c.args.disk.now in
    let at : page_with offset p.ends ≡ Some i =
    sym (ap (λ (q : DynamicPaged). page_with offset q.ends) c.self.view_is) ∙ ap (page_with offset) (sym c.deref.ensures.value) ∙ sym c.page_with.ensures.value ∙ c.in-Some.is in
    let same = ap (λ (q : DynamicPaged). page_at m q.pages i) c.self.view_is in
    let count = c.ended_in.ensures.value ∙ ap (λ b. ended_before offset (entries_of b)) c.as_slice.ensures.value in
    ap (chunk_by m p.pages offset) at ∙ ap (place_in i offset) (sym same ∙ c.in_ok-read.ensures.exact h) ∙ ap (λ n. Ok (Some (i * 1024 + n))) (sym count)

pub returns-in_default-clause-calls : goal.returns-in_default-clause-calls
returns-in_default-clause-calls g c = λ h. inl refl

pub returns-in_err-read-clause-calls : goal.returns-in_err-read-clause-calls
returns-in_err-read-clause-calls g c = λ h. inr (c.read.ensures.calls h)

pub returns-clause-calls : goal.returns-clause-calls
returns-clause-calls g c = λ h. inr (c.read.ensures.calls h)
