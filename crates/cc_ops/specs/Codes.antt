-- How a line of asks, replies, and the state of a client and server are stored.
use Rattle.std.specs.Prelude.{◌≡◌, ℕ, zero, suc, List, refl}
use Rattle.std.specs.Coded.{Coded, code_by, coded_list, coded×, coded_ℕ}
use Rattle.cc_views.specs.Rows.{ViewMap, view_code, value_code}
use Rattle.cc_views.specs.declared.value.Value.{Value}
use Rattle.std.specs.FinMap as map
use Rattle.cc_messages.specs.declared.command.Command.TheVariants as command
use Rattle.cc_ops.specs.declared.pending_operation.Asked.{Asked}
use Rattle.cc_ops.specs.declared.pending_operation.Pending.{Pending}
use Rattle.cc_ops.specs.declared.pending_operation.Reply.{Reply}
use Rattle.cc_ops.specs.contracts.pending_operation.Asked as asked
use Rattle.cc_ops.specs.contracts.pending_operation.Pending as pending
use Rattle.cc_ops.specs.contracts.pending_operation.Reply as reply
use Rattle.cc_ops.specs.Ops.{Phase, Idle, Storing, Querying, StoringBack, Ops}

abbrev none_pending : Pending
none_pending = record { asked = record { session = 0; request = 0; command = command.Collect }; need = 0; count = 0 }

abbrev phase_fields : Phase → ℕ × (Pending × ViewMap)
phase_fields Idle = (0, (none_pending, map.empty))
phase_fields (Storing p) = (1, (p, map.empty))
phase_fields (Querying p) = (2, (p, map.empty))
phase_fields (StoringBack p seen) = (3, (p, seen))

abbrev phase_with : ℕ → Pending → ViewMap → Phase
phase_with zero p seen = Idle
phase_with (suc zero) p seen = Storing p
phase_with (suc (suc zero)) p seen = Querying p
phase_with (suc (suc (suc n))) p seen = StoringBack p seen

abbrev phase_back : (phase : Phase) → phase_with (phase_fields phase).0 (phase_fields phase).1.0 (phase_fields phase).1.1 ≡ phase
phase_back Idle = refl
phase_back (Storing p) = refl
phase_back (Querying p) = refl
phase_back (StoringBack p seen) = refl

abbrev pub phase_code : Coded Phase
phase_code = code_by (ℕ × (Pending × ViewMap)) (coded× coded_ℕ (coded× (pending.the_row).coded view_code)) phase_fields
    (λ f. phase_with f.0 f.1.0 f.1.1) phase_back

abbrev pub line_code : Coded (List Asked)
line_code = coded_list (asked.the_row).coded

abbrev pub replies_code : Coded (List Reply)
replies_code = coded_list (reply.the_row).coded

abbrev pub ops_code : Coded Ops
ops_code =
    code_by (ViewMap × (ℕ × (Value × (ℕ × (ℕ × (Phase × (List Asked × List Asked)))))))
    (coded× view_code (coded× coded_ℕ (coded× value_code (coded× coded_ℕ (coded× coded_ℕ (coded× phase_code (coded× line_code line_code)))))))
    (λ s. (s.view, (s.number, (s.mine, (s.tag, (s.share, (s.phase, (s.others, s.line))))))))
    (λ p. record {
      view = p.0;
      number = p.1.0;
      mine = p.1.1.0;
      tag = p.1.1.1.0;
      share = p.1.1.1.1.0;
      phase = p.1.1.1.1.1.0;
      others = p.1.1.1.1.1.1.0;
      line = p.1.1.1.1.1.1.1;
    }) (λ _. refl)
