use Rattle.std.proofs.Common.{refl, sym}
use Rattle.std.proofs.lemmas.Bool.{lt-ltb, le-ltb, eq-eqb, ne_eqb}
use Rattle.dynamic_index.specs.Viewing.{fault_of as fault_in}
use Rattle.dynamic_index.proofs.Faults.{same_fault}
use Rattle.dynamic_index.proofs.view.fault_of.Goals as goal

pub returns-then-bytes-lt-HEADER_SIZE : goal.returns-then-bytes-lt-HEADER_SIZE
unfolding fault_in
returns-then-bytes-lt-HEADER_SIZE c = same_fault (lt-ltb _ _ c.if-bytes-lt-HEADER_SIZE.true) refl refl refl refl refl

pub returns-then-not-has_magic : goal.returns-then-not-has_magic
unfolding fault_in
returns-then-not-has_magic c =
    same_fault (le-ltb _ _ c.if-bytes-lt-HEADER_SIZE.false) (sym c.if-not-has_magic.ensures) refl refl refl refl

pub returns-then-rest-ne0 : goal.returns-then-rest-ne0
unfolding fault_in
returns-then-rest-ne0 c =
    same_fault (le-ltb _ _ c.if-bytes-lt-HEADER_SIZE.false) (sym c.if-not-has_magic.ensures) (ne_eqb _ _ c.if-rest-ne0.true) refl refl refl

pub returns-then-rest-gt-ENTRY_LIMIT : goal.returns-then-rest-gt-ENTRY_LIMIT
unfolding fault_in
returns-then-rest-gt-ENTRY_LIMIT c =
    same_fault (le-ltb _ _ c.if-bytes-lt-HEADER_SIZE.false) (sym c.if-not-has_magic.ensures) (eq-eqb _ _ c.if-rest-ne0.false)
    (lt-ltb _ _ c.if-rest-gt-ENTRY_LIMIT.true) refl refl

pub returns-then-not-has_steps : goal.returns-then-not-has_steps
unfolding fault_in
returns-then-not-has_steps c =
    same_fault (le-ltb _ _ c.if-bytes-lt-HEADER_SIZE.false) (sym c.if-not-has_magic.ensures) (eq-eqb _ _ c.if-rest-ne0.false)
    (le-ltb _ _ c.if-rest-gt-ENTRY_LIMIT.false) (sym c.if-not-has_steps.ensures) refl

pub returns-then-not-has_csum : goal.returns-then-not-has_csum
unfolding fault_in
returns-then-not-has_csum c =
    same_fault (le-ltb _ _ c.if-bytes-lt-HEADER_SIZE.false) (sym c.if-not-has_magic.ensures) (eq-eqb _ _ c.if-rest-ne0.false)
    (le-ltb _ _ c.if-rest-gt-ENTRY_LIMIT.false) (sym c.if-not-has_steps.ensures) (sym c.if-not-has_csum.ensures)

pub returns : goal.returns
unfolding fault_in
returns c =
    same_fault (le-ltb _ _ c.if-bytes-lt-HEADER_SIZE.false) (sym c.if-not-has_magic.ensures) (eq-eqb _ _ c.if-rest-ne0.false)
    (le-ltb _ _ c.if-rest-gt-ENTRY_LIMIT.false) (sym c.if-not-has_steps.ensures) (sym c.if-not-has_csum.ensures)
