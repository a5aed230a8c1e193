use Rattle.std.proofs.Common.{◌++◌, ◌∷◌, [], ◌∙◌, List, ℕ, map, take, string_bytes, arith, ap, sym, subst, inl, rules}
use Rattle.std.specs.List.{All, filter_map, cons_option}
use Rattle.std.proofs.lemmas.List.{take_more, map_push}
use Rattle.std.proofs.lemmas.List.Elements.{All-nil, filter_map-append}
use Rattle.disk_trait.specs.Files.{Files}
use Rattle.snapshot_files.specs.Scanned.{HasNames, found_named}
use Rattle.disk_trait.proofs.OnlyReading.{reads_none, reads_then, reads_by}
use Rattle.snapshot_files.proofs.scanning.all_named.Goals as goal

pub loop-name-init : goal.loop-name-init
loop-name-init g c =
    let d = g.D.Disk in
    record {
      reads = reads_none d c.args.disk.now ⊥ (λ h. h);
      found = λ h. c.new-all.ensures.items;
      names = subst (All HasNames) (sym c.new-all.ensures.items) (All-nil HasNames);
    }

pub loop-name-preserved : goal.loop-name-preserved
loop-name-preserved g c =
    let d = g.D.Disk in
    let i = c.loop-name.name-index in
    let xs = c.args.names.now in
    let x = c.name-item.result in
    let old = c.loop-name.all.items in
    let now = d.content c.args.disk.now in
    let inv = c.loop-name.invariant in
    let more = take_more xs i x (omega arith) ∙ ap (λ y. take i xs ++ y ∷ []) (sym c.name-item.is) in
    let names = ap (map string_bytes) more ∙ map_push string_bytes (take i xs) x in
    record {
      reads = reads_then d _ _ _ ⊥ _ ⊥ inv.reads c.find_into.ensures.reads inl;
      found = λ h.
          c.in_ok-find_into.ensures.found ((inv.reads).serves.kept.0 h)
          ∙ ap (λ (n : List ℕ). old ++ cons_option (found_named (d.content c.loop-name.disk) n) []) c.as_str.ensures.value
          ∙ ap (λ (m : Files). old ++ cons_option (found_named m (string_bytes x)) []) (inv.reads.same h)
          ∙ ap (λ l. l ++ cons_option (found_named now (string_bytes x)) []) (inv.found h)
          ∙ sym (ap (filter_map (found_named now)) names ∙ filter_map-append (found_named now) (map string_bytes (take i xs)) (string_bytes x ∷ []));
      names = c.in_ok-find_into.ensures.names inv.names;
    }

pub returns-in_err-find_into-clause-reads : goal.returns-in_err-find_into-clause-reads
returns-in_err-find_into-clause-reads g c =
    let d = g.D.Disk in
    reads_by d _ _ _ ⊥ _ _ c.loop-name.invariant.reads c.find_into.ensures.reads (search rules)
