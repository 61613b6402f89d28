-- Streams of frames: what one feed gives, and what many feeds give together.
--     fed, held_after               what a feed gives, memory aside, and what is held after it
--     Progress, AreFeeds            what came of many feeds
--     Reads, Refuses                what a stream holds
use Rattle.std.specs.Prelude.{◌≡◌, ℕ, ◌-◌, ◌<◌, List, [], ◌∷◌, ◌++◌, length, take, false, Option, Some, None, Result, Ok, Err, IsTrue, IfSome, if◌then◌else◌}
use Rattle.std.specs.List.{flat_map, AllByRecursion}
use Rattle.cc_wire.specs.declared.fault.WireFault.{WireFault}
use Rattle.cc_wire.specs.declared.fault.WireFault.TheVariants.{NoMemory, Broken}
use Rattle.cc_connections.specs.declared.frame.Frame.{Frame}
use Rattle.cc_connections.specs.declared.frame_reader.Fed.{Fed}
use Rattle.cc_wire.specs.Readers.{◌>>=◌, Gives}
use Rattle.cc_connections.specs.Frames.{frame_spelling, IsFrame, frame_at}
use Rattle.cc_connections.specs.Held.{is_partial}

-- ---- one feed

-- What a reader gives for a piece, memory aside, by what it holds: the bytes since the last frame, or nothing where
-- the stream was refused. It uses no byte behind the first frame.
abbrev pub fed : Option (List ℕ) → List ℕ → Result Fed WireFault
fed None piece = Err Broken
fed (Some rest) piece =
    if is_partial (rest ++ piece) then Ok (record { used = length piece; frame = None })
    else (frame_at (rest ++ piece) >>= λ f. Ok (record { used = length piece - length f.1; frame = Some f.0 }))

abbrev pub rest_after : List ℕ → List ℕ → Option Frame → List ℕ
rest_after rest piece None = rest ++ piece
rest_after rest piece (Some frame) = []

-- what the reader holds after it gave that
abbrev pub held_after : Option (List ℕ) → List ℕ → Result Fed WireFault → Option (List ℕ)
held_after None piece result = None
held_after (Some rest) piece (Ok given) = Some (rest_after rest piece given.frame)
held_after (Some rest) piece (Err NoMemory) = Some rest
held_after (Some rest) piece (Err e) = None

-- ---- many feeds

-- the bytes that were used and the frames that were given so far, and what the reader holds
pub record Progress : Type 0 where
  pub used : List ℕ
  pub frames : List Frame
  pub held : Option (List ℕ)

abbrev pub at_start : Progress
at_start = record { used = []; frames = []; held = Some [] }

abbrev pub frames_of : Option Frame → List Frame
frames_of None = []
frames_of (Some frame) = frame ∷ []

-- a piece, and what the reader gave for it
abbrev pub Feed : Type 0
Feed = List ℕ × Result Fed WireFault

abbrev pub after_feed : Progress → Feed → Progress
after_feed p (piece, Ok given) = record {
  used = p.used ++ take given.used piece;
  frames = p.frames ++ frames_of given.frame;
  held = held_after p.held piece (Ok given);
}
after_feed p (piece, Err e) = record { used = p.used; frames = p.frames; held = held_after p.held piece (Err e) }

abbrev pub after_feeds : Progress → List Feed → Progress
after_feeds p [] = p
after_feeds p (f ∷ fs) = after_feeds (after_feed p f) fs

-- the pieces are bytes, and each feed gave what a reader gives there
abbrev pub AreFeeds : Progress → List Feed → Type 0
AreFeeds p [] = Unit {0}
AreFeeds p (f ∷ fs) = (AllByRecursion (λ b. b < 256) f.0 × Gives (λ x. x) f.1 (fed p.held f.0)) × AreFeeds (after_feed p f) fs

-- ---- what a stream holds

-- the spellings of the frames, and then a rest that holds no whole frame and no bad length
pub record Reads (stream : List ℕ) (frames : List Frame) (rest : List ℕ) : Type 0 where
  pub lawful : AllByRecursion IsFrame frames
  pub spelled : stream ≡ flat_map frame_spelling frames ++ rest
  pub partial : IsTrue (is_partial rest)

-- the spellings of the frames, and then a bad length, or a whole body that is bad
pub record Refuses (stream : List ℕ) (frames : List Frame) (bad : List ℕ) (e : WireFault) : Type 0 where
  pub lawful : AllByRecursion IsFrame frames
  pub spelled : stream ≡ flat_map frame_spelling frames ++ bad
  pub there : is_partial bad ≡ false
  pub refused : frame_at bad ≡ Err e

-- What was used so far is the spellings of the frames given so far, and then what the reader holds, which holds no
-- whole frame and no bad length.
abbrev pub FeedsRead : Type 0
FeedsRead = (fs : List Feed) → AreFeeds at_start fs → let p = after_feeds at_start fs in IfSome p.held (λ rest. Reads p.used p.frames rest)

-- A piece is refused where behind the frames given so far a bad length or a whole bad body stands, and not before.
abbrev pub FeedsRefuse : Type 0
FeedsRefuse = (fs : List Feed) (rest piece : List ℕ) (e : WireFault) → AreFeeds at_start fs → let p = after_feeds at_start fs in
    p.held ≡ Some rest → fed (Some rest) piece ≡ Err e → Refuses (p.used ++ piece) p.frames (rest ++ piece) e

-- A stream holds one list of frames and one rest, so these are the same however the stream is cut.
abbrev pub StreamsReadOneWay : Type 0
StreamsReadOneWay = (stream : List ℕ) (frames others : List Frame) (rest other : List ℕ) → Reads stream frames rest → Reads stream others other
    → (frames ≡ others) × (rest ≡ other)

-- A stream that is refused is refused whatever follows, and behind the same frames.
abbrev pub StreamsStayRefused : Type 0
StreamsStayRefused = (stream more : List ℕ) (frames : List Frame) (bad : List ℕ) (e : WireFault) → Refuses stream frames bad e →
    ((others : List Frame) (rest : List ℕ) → Reads (stream ++ more) others rest → ⊥)
    × ((others : List Frame) (worse : List ℕ) (d : WireFault) → Refuses (stream ++ more) others worse d → (frames ≡ others) × (e ≡ d))
