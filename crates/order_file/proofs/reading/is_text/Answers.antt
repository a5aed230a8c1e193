use Rattle.std.proofs.Common.{◌≡◌, inl, inr, drop, sym, ◌∙◌, arith}
use Rattle.std.specs.Prelude.{codes}
use Rattle.std.specs.Str.{bytes_eq}
use Rattle.std.proofs.lemmas.Bool.{true≢false, cases_Bool}
use Rattle.std.proofs.lemmas.Bool.Decides.{Decides-eqb}
use Rattle.std.proofs.lemmas.Slice.Eq.{starts_is}
use Rattle.store_files.specs.Order.{order_text}
use Rattle.order_file.specs.Progress.{entries_at}
use Rattle.order_file.proofs.Whole.{is_text, not_magic, not_whole}
use Rattle.order_file.proofs.reading.is_text.Goals as goal

pub returns-then-starts_with-clause-exact : goal.returns-then-starts_with-clause-exact
returns-then-starts_with-clause-exact c =
    let begins = (starts_is Decides-eqb c.args.bytes.now (codes "PBSORDER") c.starts_with.result c.starts_with.ensures.value).0 c.if-starts_with.true in
    elim (cases_Bool c.is_multiple_of.result) as (λ _. c.is_multiple_of.result ≡ bytes_eq c.args.bytes.now (order_text (entries_at (drop 8 c.args.bytes.now)))) [
      | inl cut ↦ cut ∙ sym (is_text _ begins (c.is_multiple_of.ensures.0 cut) (λ i. omega (arith, c.type_inv.bytes i)))
      | inr part ↦ part ∙ sym (not_whole _ _ (λ whole. true≢false (sym (c.is_multiple_of.ensures.1 whole) ∙ part)))
    ]

pub returns-else-starts_with-clause-exact : goal.returns-else-starts_with-clause-exact
returns-else-starts_with-clause-exact c =
    let never = (starts_is Decides-eqb c.args.bytes.now (codes "PBSORDER") c.starts_with.result c.starts_with.ensures.value).1 in
    c.if-starts_with.false ∙ sym (not_magic _ _ (λ rest is. true≢false (sym (never rest is) ∙ c.if-starts_with.false)))
