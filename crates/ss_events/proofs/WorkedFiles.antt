-- Files worked out: their lists and faults.
use Rattle.std.specs.Prelude.{◌≡◌, [], ◌∷◌, Ok, Err, codes, pos, negsuc, refl}
use Rattle.csv.proofs.OnLiterals.{csv_on_literals}
use Rattle.csv.specs.Records.{field_at}
use Rattle.ss_elem.specs.Key.{key_number}
use Rattle.ss_elem.specs.declared.element.Element.TheVariants.{Row, Cti, End}
use Rattle.ss_events.specs.Events.{elements_from, event_list}
use Rattle.ss_events.specs.Rows.{cti_row, end_row, event_of, event_row, row_after}
use Rattle.ss_events.specs.declared.fault.EventWhy.TheVariants.{AfterEnd, BackwardCti, BadCount, BadKey, BadKind, EarlyEvent, EmptySpan}
use Rattle.ss_events.specs.declared.late.Late.TheVariants.{Drop, Refuse}

whole-file : event_list (codes "kind,start,end,key,a\nevent,5,9,k,3\ncti,10,,,,\ncti,10\nend,,,,,\n") Refuse
    ≡ Ok (Row (record { start = 5; end = 9; key = key_number (codes "k"); a = pos 3; b = pos 0; c = pos 0; d = pos 0 }) ∷ Cti 10 ∷ End ∷ [])
unfolding csv_on_literals field_at elements_from row_after event_row event_of cti_row end_row
whole-file = refl

four-values : event_list (codes "kind,start,end,key,a,b,c,d\nevent,5,9,k,3,,7\nevent,6,9,k,3,0,,-4\ncti,10,,,,,,\nend,,,,,,,\n") Refuse
    ≡ Ok (
    Row (record { start = 5; end = 9; key = key_number (codes "k"); a = pos 3; b = pos 0; c = pos 7; d = pos 0 })
    ∷ Row (record { start = 6; end = 9; key = key_number (codes "k"); a = pos 3; b = pos 0; c = pos 0; d = negsuc 3 })
    ∷ Cti 10 ∷ End ∷ []
    )
unfolding csv_on_literals field_at elements_from row_after event_row event_of cti_row end_row
four-values = refl

nine-fields : event_list (codes "event,5,9,k,3,0,7,0,\n") Refuse ≡ Err (record { row = 1; why = BadCount })
unfolding csv_on_literals field_at elements_from row_after event_row event_of
nine-fields = refl

header-without-c : event_list (codes "kind,start,end,key,a,b,d\n") Refuse ≡ Err (record { row = 1; why = BadKind })
unfolding csv_on_literals field_at elements_from row_after
header-without-c = refl

empty-file : event_list [] Refuse ≡ Ok (End ∷ [])
unfolding csv_on_literals elements_from
empty-file = refl

cti-goes-back : event_list (codes "cti,10\ncti,9\n") Refuse ≡ Err (record { row = 2; why = BackwardCti 9 10 })
unfolding csv_on_literals field_at elements_from row_after cti_row
cti-goes-back = refl

early-event : event_list (codes "cti,10\nevent,9,12,k,1,0\n") Refuse ≡ Err (record { row = 2; why = EarlyEvent 9 10 })
unfolding csv_on_literals field_at elements_from row_after cti_row event_row event_of
early-event = refl

early-event-dropped : event_list (codes "cti,10\nevent,9,12,k,1,0\n") Drop ≡ Ok (Cti 10 ∷ End ∷ [])
unfolding csv_on_literals field_at elements_from row_after cti_row event_row event_of
early-event-dropped = refl

header-in-row-2 : event_list (codes "cti,1\nkind,start,end,key,a\n") Refuse ≡ Err (record { row = 2; why = BadKind })
unfolding csv_on_literals field_at elements_from row_after cti_row
header-in-row-2 = refl

count-before-number : event_list (codes "event,x,9,k\n") Refuse ≡ Err (record { row = 1; why = BadCount })
unfolding csv_on_literals field_at elements_from row_after event_row event_of
count-before-number = refl

key-before-value : event_list (codes "event,0,1,,x,0\n") Refuse ≡ Err (record { row = 1; why = BadKey })
unfolding csv_on_literals field_at elements_from row_after event_row event_of
key-before-value = refl

empty-span : event_list (codes "event,7,7,k,0,0\n") Refuse ≡ Err (record { row = 1; why = EmptySpan })
unfolding csv_on_literals field_at elements_from row_after event_row event_of
empty-span = refl

after-end : event_list (codes "end\n\ncti,1\n") Refuse ≡ Err (record { row = 2; why = AfterEnd })
unfolding csv_on_literals field_at elements_from row_after end_row
after-end = refl
