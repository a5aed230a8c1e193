use Rattle.std.proofs.Common.{rules, ◌≡◌, ℕ, ◌+◌, ◌-◌, ◌*◌, List, [], ◌++◌, take, drop, inl, inr, arith, sym, ap, ap₂, ◌∙◌, append_assoc, length-set}
use Rattle.std.proofs.lemmas.List.{get_or-set_same, get_or-set_other, take_rest, take-append-drop}
use Rattle.std.proofs.lemmas.Bool.{cases_lt}
use Rattle.std.proofs.Math.Seq.{take-add}
use Rattle.hash_states.specs.States.{State, absorb, quarters_to}
use Rattle.hash_states.proofs.States.{absorb_more}
use Rattle.hash_states.proofs.state.HashState.update_noting.Goals as goal

-- the bytes up to a quarter's end, and those of the next one
next_quarter : (len i : ℕ) (bytes : List ℕ)
    → take (len * i) bytes ++ take (len * (i + 1) - len * i) (drop (len * i) bytes) ≡ take (len * (i + 1)) bytes
next_quarter len i bytes =
    let one : len * (i + 1) - len * i ≡ len = omega arith in
    let both : len * i + len ≡ len * (i + 1) = omega arith in
    ap (λ n. take (len * i) bytes ++ take n (drop (len * i) bytes)) one ∙ sym (take-add (len * i) len bytes)
    ∙ ap (λ n. take n bytes) both

pub quarters-init : goal.quarters-init
quarters-init c =
    let none : c.quarter_len-len.result * 0 ≡ 0 = omega arith in
    (λ x. ap (λ n. absorb c.args.self.now (take n c.args.bytes.now ++ x)) (sym none), search rules, λ i lt. search rules)

pub quarters-preserved : goal.quarters-preserved
quarters-preserved c =
    let bytes = c.args.bytes.now in
    let len = c.quarter_len-len.result in
    let i = c.quarters.i in
    let before : List ℕ = take (len * i) bytes in
    let quarter : List ℕ = take (len * (i + 1) - len * i) (drop (len * i) bytes) in
    let noted : c.self.inside.value ≡ (absorb c.args.self.now (quarters_to i bytes)).hash =
    ap (λ (s : State). s.hash)
    (c.self.view_is ∙ c.update.ensures ∙ c.quarters.invariant.0 quarter
    ∙ ap (absorb c.args.self.now)
    (next_quarter len i bytes ∙ ap (λ n. take (n * (i + 1)) bytes) c.quarter_len-len.ensures)) in (
      λ x.
          ap (λ s. absorb s x) c.update.ensures ∙ absorb_more c.quarters.self quarter x
          ∙ c.quarters.invariant.0 (quarter ++ x)
          ∙ ap (absorb c.args.self.now)
          (sym (append_assoc before quarter x) ∙ ap (λ l. l ++ x) (next_quarter len i bytes)),
      length-set c.quarters.values i c.self.inside.value ∙ c.quarters.invariant.1,
      λ k lt. elim (cases_lt k i) [
        | inl a ↦ get_or-set_other c.quarters.values i k c.self.inside.value [] (omega arith) ∙ c.quarters.invariant.2 k a
        | inr b ↦
            let e : i ≡ k = omega arith in
            rw (← e) (get_or-set_same c.quarters.values i c.self.inside.value [] (omega arith) ∙ noted)
      ],
    )

pub returns-clause-state : goal.returns-clause-state
returns-clause-state c =
    let bytes = c.args.bytes.now in
    let all : c.quarters.i ≡ 4 = omega (arith, c.quarters.auto) in
    let end : c.quarter_len-len.result * c.quarters.i ≡ 4 * c.quarter_len-len.result = rw all (omega arith) in
    c.update-2.ensures ∙ c.quarters.invariant.0 _
    ∙ ap (absorb c.args.self.now)
    (ap₂ (λ n l. take n bytes ++ l) end (take_rest bytes (4 * c.quarter_len-len.result))
    ∙ take-append-drop (4 * c.quarter_len-len.result) bytes)

pub returns-clause-quarters : goal.returns-clause-quarters
returns-clause-quarters c = λ i lt. c.quarters.invariant.2 i (omega arith)
