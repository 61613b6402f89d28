-- A node's engine may go to another thread where its site may, and who takes turns of it may be shared. The search finds neither by itself: it
-- gives up before it has looked at all that an engine has.
use denote.RattleType.{RattleType}
use denote.Ref.{NamedLft}
use denote.Struct.Declared
use denote.Param.{param}
use denote.Param.Send.{IsSend, IsSync, sendable, recorded_sync, struct_sync, shr_sync}
use Rattle.std.proofs.Crossing.{crosses}
use Rattle.std.proofs.sync.Mutex.TheSendSync as mutex
use Rattle.std.specs.contracts.sync.Mutex
use Rattle.std.specs.declared.sync.ledger.Ledger
use Rattle.cc_site.specs.declared.site.Site
use Rattle.cc_node.proofs.node.Node.TheSendSync as node
use Rattle.cc_journal.proofs.journal.Journal.TheSendSync as journal
use Rattle.cc_journal.proofs.batch.Batch.TheSendSync as batch
use Rattle.cc_journal.proofs.entry.Entry.TheSendSync as entry
use Rattle.cc_checkpoint.proofs.piece.Piece.TheSendSync as piece
use Rattle.cc_flush.specs.contracts.flusher.Flusher
use Rattle.cc_channels.specs.contracts.shared.Shared
use Rattle.cc_channels.proofs.shared.Shared.TheSendSync as shared
use Rattle.cc_channels.proofs.admission.Admission.TheSendSync as admission
use Rattle.cc_intake.proofs.ends.Queue.TheSendSync as queue
use Rattle.cc_intake.proofs.ends.Consumer.TheSendSync as consumer
use Rattle.cc_intake.specs.contracts.ends.Queue
use Rattle.cc_intake.specs.contracts.of_life.OfLife
use Rattle.cc_intake.specs.contracts.of_life.OfLifeFlushed.TheImpl as of_life
use Rattle.cc_channels.specs.contracts.admission.Admission
use Rattle.cc_intake.specs.declared.rule.Life
use Rattle.cc_intake.specs.declared.rule.Lane
use Rattle.cc_intake.specs.contracts.turner.Turner
use Rattle.cc_threads.specs.contracts.turns.CountedTurner
use Rattle.cc_threads.specs.contracts.turns.Turns
use Rattle.cc_server.specs.contracts.worker_calls.WorkerCalls

flusher_send : (T : RattleType) (g : Site.Ghosts T.Denot) → IsSend T → IsSend (Flusher.the_row T g)
flusher_send T g s = search (node.the_send, journal.the_send, piece.the_send, crosses, sendable) depth 60 fits 20000

turner_send : (T T' T'' : RattleType) (g : Site.Ghosts T.Denot) (g' : Life.Ghosts T'.Denot) (g'' : Ledger.Ghosts T'.Denot) (g3 : Lane.Ghosts T''.Denot)
    → IsSend T → IsSend T' → IsSync T' → IsSend T'' → IsSync T'' → IsSend (Turner.the_row T T' T'' g g' g'' g3)
turner_send T T' T'' g g' g'' g3 s s1 s2 s3 s4 = search (flusher_send, consumer.the_send, batch.the_send, entry.the_send, crosses, sendable) depth 60 fits 20000

pub counted_send : (T T' T'' : RattleType) (g : Site.Ghosts T.Denot) (g' : Life.Ghosts T'.Denot) (g'' : Ledger.Ghosts T'.Denot) (g3 : Lane.Ghosts T''.Denot)
    → IsSend T → IsSend T' → IsSync T' → IsSend T'' → IsSync T'' → IsSend (CountedTurner.the_row T T' T'' g g' g'' g3)
counted_send T T' T'' g g' g'' g3 s s1 s2 s3 s4 = search (turner_send, crosses, sendable) depth 60 fits 20000

turns_sync : (a : NamedLft) (T T' T'' T3 : RattleType) (g : Lane.Ghosts T''.Denot) (g' : Site.Ghosts T.Denot) (g'' : Life.Ghosts T'.Denot) (g3 : Ledger.Ghosts T'.Denot)
    → IsSend T → IsSend T' → IsSync T' → IsSend T'' → IsSync T'' → IsSync T3 → IsSync (Turns.the_row a T T' T'' T3 g g' g'' g3)
turns_sync a T T' T'' T3 g g' g'' g3 s s1 s2 s3 s4 r =
    let e : IsSync (Mutex.the_row (CountedTurner.the_row T T' T'' g' g'' g3 g)) = mutex.the_sync _ (counted_send T T' T'' g' g'' g3 g s s1 s2 s3 s4) in
    let q : IsSync (Queue.the_row T' T'' g g'' g3) = queue.the_sync T' T'' g g'' g3 in
    let ad : IsSync (Admission.the_row (OfLife.the_row T') (of_life.ghosts T' g'' of_life.no_dict g3 of_life.no_dict)) = admission.the_sync (OfLife.the_row T') (of_life.ghosts T' g'' of_life.no_dict g3 of_life.no_dict) in
    recorded_sync (Turns.the_field a T T' T'' T3 g g' g'' g3).row _ _ (Turns.the_type a T T' T'' T3 g g' g'' g3).to_one
    (struct_sync (Declared.shape (Turns.the_type a T T' T'' T3 g g' g'' g3)) (
      shr_sync _ _ T3 r,
      (
        shr_sync _ _ (Mutex.the_row (CountedTurner.the_row T T' T'' g' g'' g3 g)) e,
        (
          shr_sync _ _ (Queue.the_row T' T'' g g'' g3) q,
          (
            shr_sync _ _ (Admission.the_row (OfLife.the_row T') (of_life.ghosts T' g'' of_life.no_dict g3 of_life.no_dict)) ad,
            (shr_sync _ _ Shared.the_row shared.the_sync, tt),
          ),
        ),
      ),
    ))

pub calls_sync : (h t x : NamedLft) (T T' T'' T3 T4 : RattleType) (g : Lane.Ghosts T''.Denot) (g' : Site.Ghosts T.Denot) (g'' : Life.Ghosts T'.Denot) (g3 : Ledger.Ghosts T'.Denot)
    → IsSend T → IsSend T' → IsSync T' → IsSend T'' → IsSync T'' → IsSync T3 → IsSync T4 → IsSync (WorkerCalls.the_row h t x T T' T'' T3 T4 g g' g'' g3)
calls_sync h t x T T' T'' T3 T4 g g' g'' g3 s s1 s2 s3 s4 r r' =
    let ts : IsSync (Turns.the_row t T T' T'' T3 g g' g'' g3) = turns_sync t T T' T'' T3 g g' g'' g3 s s1 s2 s3 s4 r in
    recorded_sync (WorkerCalls.the_field h t x T T' T'' T3 T4 g g' g'' g3).row _ _ (WorkerCalls.the_type h t x T T' T'' T3 T4 g g' g'' g3).to_one
    (struct_sync (Declared.shape (WorkerCalls.the_type h t x T T' T'' T3 T4 g g' g'' g3)) (shr_sync _ _ T4 r', (shr_sync _ _ (Turns.the_row t T T' T'' T3 g g' g'' g3) ts, tt)))
