use Rattle.std.proofs.Common.{◌≡◌, ◌+◌, ◌*◌, ◌<◌, List, ℕ, true, false, length, sym, ap, ap₂, subst, ◌∙◌, arith}
use Rattle.std.specs.FinMap.{get}
use Rattle.index_pages.specs.declared.fault.PageFault.TheVariants.{Changed}
use Rattle.index_pages.specs.Gives.{Gives}
use Rattle.index_pages.specs.Paged.{IsOfBytes, Paged, has_sum, no_sum, page_at, page_in, page_len, page_start, sum_at}
use Rattle.index_pages.proofs.Carried.{by_err}
use Rattle.index_pages.proofs.Filled.{gives_err, kept_is, other_default, page_err, page_tried, same_part}
use Rattle.index_pages.proofs.pages.Pages.read.Goals as goal

pub returns-in_err-fill-clause-exact : goal.returns-in_err-fill-clause-exact
unfolding page_at
returns-in_err-fill-clause-exact g c = let d = g.D.Disk in λ h.
    let p = c.args.self.now in
    let i = c.args.i in
    let w = c.self.inside.width in
    let m = d.content c.args.disk.now in
    let named : c.as_str.result.now ≡ p.name = c.as_str.ensures.value ∙ ap (λ (q : Paged). q.name) c.self.view_is in
    let start : 4096 + c.from.result * (1024 * w) ≡ page_start p i = ap (λ n. 4096 + n * (1024 * w)) c.from.ensures ∙ ap (λ (q : Paged). page_start q i) c.self.view_is in
    let len : c.entries_in.result * w ≡ page_len p i = ap (λ n. n * w) c.entries_in.ensures ∙ ap (λ (q : Paged). page_len q i) c.self.view_is in
    let same = same_part m c.as_str.result.now p.name (4096 + c.from.result * (1024 * w)) (page_start p i) (c.entries_in.result * w) (page_len p i) (Changed i) named start len in
    by_err c.from_residual.result c.in_err-fill.field-0.0 (λ r. Gives (λ _. c.fill.new.self) r (page_in p i (get m p.name))) c.from_residual.ensures.1
    (gives_err {A = Unit {0}} {B = List ℕ} {C = Unit {0}} {E = List ℕ} (λ _. c.fill.new.self) (λ _. c.fill.new.self) c.in_err-fill.field-0.0 _ (page_in p i (get m p.name)) (c.in_err-fill.ensures.exact h)
    (λ e. page_err p i (get m p.name) c.in_err-fill.field-0.0 (sym same ∙ e)))

pub returns-then-not-has-clause-exact : goal.returns-then-not-has-clause-exact
unfolding page_at
returns-then-not-has-clause-exact g c = let d = g.D.Disk in λ h.
    let p = c.args.self.now in
    let i = c.args.i in
    let w = c.self.inside.width in
    let named : c.as_str.result.now ≡ p.name = c.as_str.ensures.value ∙ ap (λ (q : Paged). q.name) c.self.view_is in
    let start : 4096 + c.from.result * (1024 * w) ≡ page_start p i = ap (λ n. 4096 + n * (1024 * w)) c.from.ensures ∙ ap (λ (q : Paged). page_start q i) c.self.view_is in
    let len : c.entries_in.result * w ≡ page_len p i = ap (λ n. n * w) c.entries_in.ensures ∙ ap (λ (q : Paged). page_len q i) c.self.view_is in
    let counts : c.self.inside.count ≡ p.count = ap (λ (q : Paged). q.count) c.self.view_is in
    let below : i < length c.self.inside.sums.items = omega (arith, c.requires, counts, c.self.invariant.sums) in
    let sum : sum_at p i ≡ c.index.result.now = sym (ap (λ (q : Paged). sum_at q i) c.self.view_is) ∙ other_default c.self.inside.sums.items i no_sum c.index.result.now below ∙ sym c.index.ensures in
    let test = ap₂ (λ x y. has_sum y x) (sym c.as_slice.ensures.value) sum ∙ sym c.if-not-has.ensures in
    let m = d.content c.args.disk.now in
    let same = same_part m c.as_str.result.now p.name (4096 + c.from.result * (1024 * w)) (page_start p i) (c.entries_in.result * w) (page_len p i) (Changed i) named start len in
    page_tried p i (get m p.name) c.fill.new.self false (sym same ∙ c.in_ok-fill.ensures.exact h) (kept_is p i c.fill.new.self false (c.in_ok-fill.ensures.len ∙ len) test)

pub returns-clause-exact : goal.returns-clause-exact
unfolding page_at
returns-clause-exact g c = let d = g.D.Disk in λ h.
    let p = c.args.self.now in
    let i = c.args.i in
    let w = c.self.inside.width in
    let named : c.as_str.result.now ≡ p.name = c.as_str.ensures.value ∙ ap (λ (q : Paged). q.name) c.self.view_is in
    let start : 4096 + c.from.result * (1024 * w) ≡ page_start p i = ap (λ n. 4096 + n * (1024 * w)) c.from.ensures ∙ ap (λ (q : Paged). page_start q i) c.self.view_is in
    let len : c.entries_in.result * w ≡ page_len p i = ap (λ n. n * w) c.entries_in.ensures ∙ ap (λ (q : Paged). page_len q i) c.self.view_is in
    let counts : c.self.inside.count ≡ p.count = ap (λ (q : Paged). q.count) c.self.view_is in
    let below : i < length c.self.inside.sums.items = omega (arith, c.requires, counts, c.self.invariant.sums) in
    let sum : sum_at p i ≡ c.index.result.now = sym (ap (λ (q : Paged). sum_at q i) c.self.view_is) ∙ other_default c.self.inside.sums.items i no_sum c.index.result.now below ∙ sym c.index.ensures in
    let test = ap₂ (λ x y. has_sum y x) (sym c.as_slice.ensures.value) sum ∙ sym c.if-not-has.ensures in
    let m = d.content c.args.disk.now in
    let same = same_part m c.as_str.result.now p.name (4096 + c.from.result * (1024 * w)) (page_start p i) (c.entries_in.result * w) (page_len p i) (Changed i) named start len in
    page_tried p i (get m p.name) c.fill.new.self true (sym same ∙ c.in_ok-fill.ensures.exact h) (kept_is p i c.fill.new.self true (c.in_ok-fill.ensures.len ∙ len) test)

pub returns-clause-kept : goal.returns-clause-kept
returns-clause-kept g c =
    let p = c.args.self.now in
    let i = c.args.i in
    let w = c.self.inside.width in
    let named : c.as_str.result.now ≡ p.name = c.as_str.ensures.value ∙ ap (λ (q : Paged). q.name) c.self.view_is in
    let start : 4096 + c.from.result * (1024 * w) ≡ page_start p i = ap (λ n. 4096 + n * (1024 * w)) c.from.ensures ∙ ap (λ (q : Paged). page_start q i) c.self.view_is in
    let len : c.entries_in.result * w ≡ page_len p i = ap (λ n. n * w) c.entries_in.ensures ∙ ap (λ (q : Paged). page_len q i) c.self.view_is in
    let counts : c.self.inside.count ≡ p.count = ap (λ (q : Paged). q.count) c.self.view_is in
    let below : i < length c.self.inside.sums.items = omega (arith, c.requires, counts, c.self.invariant.sums) in
    let sum : sum_at p i ≡ c.index.result.now = sym (ap (λ (q : Paged). sum_at q i) c.self.view_is) ∙ other_default c.self.inside.sums.items i no_sum c.index.result.now below ∙ sym c.index.ensures in
    let test = ap₂ (λ x y. has_sum y x) (sym c.as_slice.ensures.value) sum ∙ sym c.if-not-has.ensures in
    kept_is p i c.fill.new.self true (c.in_ok-fill.ensures.len ∙ len) test

pub returns-clause-bytes : goal.returns-clause-bytes
returns-clause-bytes g c = subst IsOfBytes c.self.view_is c.self.invariant.bytes
