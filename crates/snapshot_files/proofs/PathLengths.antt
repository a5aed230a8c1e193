-- How long the paths of files are.
use Rattle.std.proofs.Common.{◌≡◌, ◌≤◌, ◌/◌, ℕ, zero, suc, true, ◌&&◌, List, length, get_or, refl, arith, length-append}
use Rattle.std.proofs.lemmas.Bool.{leb-true, and_parts}
use Rattle.std.specs.Prelude.{nat_le}
use Rattle.std.specs.List.{list_all}
use Rattle.store_types.specs.declared.names.Kind.{Kind}
use Rattle.store_types.specs.declared.names.Kind.TheVariants.{Ct, Host, Vm}
use Rattle.store_types.specs.declared.names.SnapshotKey.{SnapshotKey}
use Rattle.store_types.specs.FileNames.{is_id, is_file_name, is_word_byte, is_id_byte}
use Rattle.store_types.specs.Times.{digits, time_text}
use Rattle.store_types.specs.Names.{IsKey, kind_text, group_text, key_text}
use Rattle.store_types.proofs.NameLemmas.{file_name_id}
use Rattle.store_files.specs.Folder.{file_path}

length-digits : (n x : ℕ) → length (digits n x) ≡ n
unfolding digits
length-digits zero x = refl
length-digits (suc n) x = let h = length-digits n (x / 10) in simp length-append (omega arith)

length-time_text : (t : ℕ) → length (time_text t) ≡ 20
unfolding time_text
length-time_text t = simp (length-append, length-digits) (omega arith)

kind_short : (k : Kind) → length (kind_text k) ≤ 4
kind_short Ct = omega arith
kind_short Host = omega arith
kind_short Vm = omega arith

id_short : (id : List ℕ) → is_id id ≡ true → length id ≤ 64
id_short id h =
    let four = and_parts (nat_le 1 (length id) && nat_le (length id) 64 && is_word_byte (get_or id 0 0)) (list_all is_id_byte id) h in
    let three = and_parts (nat_le 1 (length id) && nat_le (length id) 64) (is_word_byte (get_or id 0 0)) four.0 in
    leb-true (length id) 64 (and_parts (nat_le 1 (length id)) (nat_le (length id) 64) three.0).1

pub key_short : (k : SnapshotKey) → IsKey k → length (key_text k) ≤ 90
unfolding key_text group_text
key_short k h = simp length-append (omega (arith, kind_short k.kind, id_short k.id h.0, length-time_text k.time))

-- at most 155 of the 251 bytes that a name may have beside its temporary one
pub path_short : (k : SnapshotKey) (name : List ℕ) → IsKey k → is_file_name name ≡ true → length (file_path k name) ≤ 251
path_short k name key h = simp length-append (omega (arith, key_short k key, id_short name (file_name_id name h)))
