-- Document 01's examples at the edges, (a) to (k), each with what is expected.
use Rattle.std.specs.Prelude.{ℕ, Bool, true, false, List, [], ◌∷◌, ◌++◌, length, set, replicate, Result, Ok, Err}
use Rattle.refusal.specs.declared.Refusal.{Refusal}
use Rattle.universe.specs.declared.Ipv4Address.{Ipv4Address}
use Rattle.refusal.specs.Check.{refusal, nowhere, preamble, root, framing, outcome, checked_of, Checked}
use Rattle.universe.specs.Universe.{universe_checks, multicast_of}
use Rattle.name.specs.Utf8.{well_formed}
use Rattle.discovery.specs.declared.DiscoveryFields.{DiscoveryFields}
use Rattle.packet.specs.Packet.{reading_of}
use Rattle.packet.specs.declared.Packet.TheVariants as packet
use Rattle.packet.specs.declared.Reading.{Reading}
use Rattle.packet.specs.declared.Packet.{Packet}
use Rattle.pack.specs.Writing.{discovery_bytes, discovery_length, discovery_write_checks, packed_of, after_pack}

-- a datagram to read, a universe whose range and address are asked, bytes that may be UTF-8, universes to write as a discovery packet
pub data Question : Type 0 where
  read : List ℕ → Question
  address : ℕ → Question
  text : List ℕ → Question
  write : List ℕ → Question

pub data Answer : Type 0 where
  is : Reading Packet → Answer
  at : Checked → Result Ipv4Address Refusal → Answer
  formed : Bool → Answer
  left : Result ℕ Refusal → List ℕ → Answer

-- what the universes are written with: a buffer that holds two of them and no more, a CID, a name, a single page
unfoldable pub buffer : List ℕ
buffer = replicate 124 0xee

abbrev pub title : List ℕ
title = 0x61 ∷ []

abbrev pub single : DiscoveryFields
single = record { page = 0; last_page = 0 }

-- the writer's answer, and the buffer afterwards
abbrev pub writes : List ℕ → Result ℕ Refusal → Answer
writes us p = left p (after_pack p (discovery_bytes (replicate 16 0x11) single title us) buffer)

unfoldable pub answer : Question → Answer
answer (read d) = is (reading_of d)
answer (address u) = at (checked_of (universe_checks u)) (multicast_of u)
answer (text s) = formed (outcome (well_formed s))
answer (write us) = writes us (packed_of (discovery_write_checks (length buffer) title us) (discovery_length us))

-- packet S
unfoldable pub S : List ℕ
S =
    (0x00 ∷ 0x10 ∷ 0x00 ∷ 0x00 ∷ 0x41 ∷ 0x53 ∷ 0x43 ∷ 0x2d ∷ 0x45 ∷ 0x31 ∷ 0x2e ∷ 0x31 ∷ 0x37 ∷ 0x00 ∷ 0x00 ∷ 0x00 ∷ [])
    ++ (0x70 ∷ 0x21 ∷ 0x00 ∷ 0x00 ∷ 0x00 ∷ 0x08 ∷ [])
    ++ replicate 16 0x11
    ++ (0x70 ∷ 0x0b ∷ 0x00 ∷ 0x00 ∷ 0x00 ∷ 0x01 ∷ 0x07 ∷ 0x1f ∷ 0x40 ∷ 0x00 ∷ 0x00 ∷ [])

abbrev pub refused : ℕ → ℕ → ℕ → Answer
refused n place value = is (record { cid = replicate 16 0; packet = packet.Refused (refusal n place value) })

abbrev pub reached : ℕ → ℕ → Answer
reached high low = at (Ok tt) (Ok (record { highest = 239; second = 255; third = high; lowest = low; port = 5568 }))

abbrev pub unreached : ℕ → Answer
unreached u = at (Err (refusal 30 nowhere u)) (Err (refusal 30 nowhere u))

-- a refused write: the buffer as found
abbrev pub unwritten : ℕ → Answer
unwritten n = left (Err (refusal n nowhere 0)) buffer

pub record Example : Type 0 where
  pub question : Question
  pub expected : Answer

infix 10 ◌gives◌
abbrev pub ◌gives◌ : Question → Answer → Example
q gives a = record { question = q; expected = a }

unfoldable pub examples : List Example
examples =
    -- (a) the empty datagram
    (read [] gives refused 1 preamble 0)
    -- (b) S: its record
    ∷ (read S gives is (record {
      cid = replicate 16 0x11;
      packet = packet.Synchronization (record { fields = record { sequence_number = 7; synchronization_address = 8000 } });
    }))
    -- (c) S, framing length 10; (d) length 12; (e) length 12 and vector 7
    ∷ (read (set S 39 10) gives refused 5 framing 10)
    ∷ (read (set S 39 12) gives refused 14 framing 12)
    ∷ (read (set (set S 39 12) 43 7) gives refused 4 framing 7)
    -- (f) S, sync address 0; (g) byte 16 as 60; (h) root length 21
    ∷ (read (set (set S 45 0) 46 0) gives refused 9 framing 0)
    ∷ (read (set S 16 0x60) gives refused 3 root 96)
    ∷ (read (set S 17 21) gives refused 13 root 0)
    -- (i) universes 63999 and 64214, in range and addressed; 0 and 64000, neither
    ∷ (address 63999 gives reached 249 255)
    ∷ (address 64214 gives reached 250 214)
    ∷ (address 0 gives unreached 0)
    ∷ (address 64000 gives unreached 64000)
    -- (j) c3 a9 well formed; c0 80, ed a0 80, f4 90 80 80 not
    ∷ (text (0xc3 ∷ 0xa9 ∷ []) gives formed true)
    ∷ (text (0xc0 ∷ 0x80 ∷ []) gives formed false)
    ∷ (text (0xed ∷ 0xa0 ∷ 0x80 ∷ []) gives formed false)
    ∷ (text (0xf4 ∷ 0x90 ∷ 0x80 ∷ 0x80 ∷ []) gives formed false)
    -- (k) universes 5,5 and 5,3
    ∷ (write (5 ∷ 5 ∷ []) gives unwritten 25)
    ∷ (write (5 ∷ 3 ∷ []) gives unwritten 26)
    ∷ []
