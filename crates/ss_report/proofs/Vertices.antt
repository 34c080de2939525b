-- Vertices and replicas, found again by what is written of them.
use Rattle.std.proofs.Common.{◌≡◌, ℕ, ◌<◌, ◌≤◌, ◌^◌, Bool, true, false, List, [], ◌∷◌, length, get_or, Some, None, Ok, Err, sym, ap, ◌∙◌, subst, arith}
use Rattle.std.specs.Prelude.{◌&&◌, bytes_eq, cond, map, nat_le, nat_lt, position, if◌then◌else◌}
use Rattle.std.specs.Fmt.{decimal}
use Rattle.std.specs.Cmp.Lexicographic.{nat_list_eq_equiv}
use Rattle.std.specs.List.{position_or_len}
use Rattle.std.specs.Option.{ok_or, option_map_or}
use Rattle.std.proofs.lemmas.Bool.{and_from, and_left, cond-true, le-leb, lt-ltb}
use Rattle.std.proofs.lemmas.List.{get_or-map, length-map}
use Rattle.std.proofs.lemmas.List.Sums.{position_or_len_is}
use Rattle.std.proofs.lemmas.Map.Keys.{apart_from_distinct}
use Rattle.std.proofs.lemmas.Option.{slice_get-get_or}
use Rattle.ss_fail.specs.Acts.{◌>>=◌, count_to, is_wanted, replica_of, replicas_of, suits, vertex_of}
use Rattle.ss_fail.specs.declared.fault.ScriptWhy.TheVariants.{BadNumber, NoReplica, UnknownName}
use Rattle.ss_fail.specs.declared.role.Role.{Role}
use Rattle.ss_report.specs.ReadAgain.{HasNames, IsVertexOf, IsWord}
use Rattle.ss_report.specs.StateText.{name_of}
use Rattle.ss_report.proofs.Words.{number_again}

pub some_role : (roles : List Role) (v : ℕ) → v < length roles → Role
some_role [] v lt = absurd (omega (arith, lt))
some_role (role ∷ roles) v lt = role

name_is : (roles : List Role) (v : ℕ) (d : Role) → v < length roles → name_of roles v ≡ (get_or roles v d).name
name_is roles v d lt = ap (λ o. option_map_or (λ role. role.name) o []) (slice_get-get_or roles v d lt)

pub name_word : (roles : List Role) (v : ℕ) → HasNames roles → v < length roles → IsWord (name_of roles v)
name_word roles v named lt =
    let d = some_role roles v lt in
    subst IsWord (sym (name_is roles v d lt)) (named.words v d lt)

apart : (roles : List Role) (k v : ℕ) (d : Role) → HasNames roles → k < v → v < length roles
    → bytes_eq (get_or roles k d).name (get_or roles v d).name ≡ false
apart roles k v d named less lt =
    ap (λ (t : List ℕ). bytes_eq t (get_or roles v d).name) (sym (get_or-map (λ role. role.name) roles k d [] (omega (arith, less, lt))))
    ∙ ap (λ (t : List ℕ). bytes_eq (get_or (map (λ role. role.name) roles) k []) t) (sym (get_or-map (λ role. role.name) roles v d [] lt))
    ∙ apart_from_distinct bytes_eq (map (λ role. role.name) roles) k v [] named.distinct less (rw length-map lt)

-- the first vertex of its kind with the name of vertex v is v
pub vertex_again : (sink : Bool) (roles : List Role) (v : ℕ) → HasNames roles → IsVertexOf sink roles v → vertex_of sink roles (name_of roles v) ≡ Ok v
vertex_again sink roles v named is =
    let d = some_role roles v is.0 in
    let name : List ℕ = (get_or roles v d).name in
    let here = slice_get-get_or roles v d is.0 in
    let kind : suits sink (get_or roles v d).kind ≡ true =
    sym (ap (λ o. option_map_or (λ role. suits sink role.kind) o false) here) ∙ is.1 in
    let place : position_or_len (is_wanted sink name) roles ≡ v =
    position_or_len_is (is_wanted sink name) roles v d (omega (arith, is.0))
    (λ k less. and_left _ _ (apart roles k v d named less is.0)) (λ _. and_from _ _ (nat_list_eq_equiv.refl name) kind) in
    let found : position (is_wanted sink name) roles ≡ Some v =
    ap (λ i. cond (nat_lt i (length roles)) (Some i) None) place ∙ cond-true _ (Some v) None (lt-ltb v (length roles) is.0) in
    ap (λ n. ok_or (position (is_wanted sink n) roles) UnknownName) (name_is roles v d is.0) ∙ ap (λ o. ok_or o UnknownName) found

pub replica_again : (roles : List Role) (v r : ℕ) → r < replicas_of roles v → r < 2 ^ 32 → replica_of roles v (decimal r) ≡ Ok r
replica_again roles v r lt small =
    ap (λ o. ok_or o BadNumber >>= (λ r. if nat_lt r (replicas_of roles v) then Ok r else Err NoReplica)) (number_again (2 ^ 32) r small (omega (arith, small)))
    ∙ cond-true _ (Ok r) (Err NoReplica) (lt-ltb r (replicas_of roles v) lt)

pub count_again : (count : ℕ) → 1 ≤ count → count ≤ 64 → count_to 64 (decimal count) ≡ Ok count
count_again count some few =
    ap (λ o. ok_or o BadNumber >>= (λ c. if nat_le 1 c && nat_le c 64 then Ok c else Err BadNumber)) (number_again (2 ^ 64) count (omega (arith, few)) (omega (arith, few)))
    ∙ cond-true _ (Ok count) (Err BadNumber) (and_from _ _ (le-leb 1 count some) (le-leb count 64 few))
