-- What is meant for a group's snapshots, by the marks of the rule.
use Rattle.std.proofs.Common.{◌≡◌, ℕ, ◌≤◌, List, [], ◌∷◌, ◌++◌, length, get_or, map, reverse, Option, Some, None, unwrap_or, refl, ap, ◌∙◌, arith}
use Rattle.std.specs.List.{All, zip}
use Rattle.std.specs.Option.{option_map}
use Rattle.std.proofs.lemmas.List.Elements.{All-map}
use Rattle.store_types.specs.declared.names.Keep.{Keep}
use Rattle.store_types.specs.declared.names.SnapshotKey.{SnapshotKey}
use Rattle.store_types.specs.Names.{key_of}
use Rattle.store_types.specs.Times.{last_moment}
use Rattle.store_types.proofs.KeyLaws.{key_one}
use Rattle.prune_rules.specs.declared.Item.{Item}
use Rattle.prune_rules.specs.declared.Mark.{Mark}
use Rattle.prune_rules.specs.Prune.{marks}
use Rattle.wire_commands.specs.declared.rows.PruneRow.{PruneRow}
use Rattle.store_model.specs.PruneJob.{item_of, rows_meant}
use Rattle.job_steps.specs.Rows.{row_of}

-- a list of no length
pub none : {A : Type 0} (xs : List A) → length xs ≡ 0 → xs ≡ []
none [] h = refl
none (x ∷ xs) h = absurd (omega arith)

read_by : (text : List ℕ) (key : Option SnapshotKey) → key_of text ≡ key → unwrap_or (option_map (λ k. k.time) key) 0 ≤ last_moment
read_by text None e = omega arith
read_by text (Some key) e = (key_one text key e).0.1

pub times_bounded : (texts : List (List ℕ)) → All (λ item. item.time ≤ last_moment) (map item_of texts)
times_bounded texts = All-map (λ (item : Item). item.time ≤ last_moment) item_of texts (λ k d lt. let text = get_or texts k d in read_by text (key_of text) refl)

-- behind an empty list, by reversing and marking
pub rows_by : (keep : Keep) (oldest_first snapshots : List (List ℕ)) (items : List Item) (ms : List Mark) (old new : List PruneRow)
    → snapshots ≡ reverse oldest_first → items ≡ map item_of snapshots → ms ≡ marks items keep → old ≡ []
    → new ≡ old ++ map row_of (zip snapshots ms) → new ≡ rows_meant keep oldest_first
unfolding rows_meant
rows_by keep oldest_first snapshots items ms old new reversed timed marked empty is =
    is ∙ ap (λ xs. xs ++ map row_of (zip snapshots ms)) empty ∙ ap (λ x. map row_of (zip snapshots x)) (marked ∙ ap (λ x. marks x keep) timed)
    ∙ ap (λ x. map row_of (zip x (marks (map item_of x) keep))) reversed
