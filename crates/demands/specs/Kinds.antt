-- The crate's kind of error for each of document 01's numbers. compare/ reads these lines, and holds each answer of the crate to them.
use Rattle.std.specs.Prelude.{ℕ}
use Rattle.refusal.specs.Check.{◌=?◌, choose}

-- names of error.rs and sacn_parse_pack_error.rs; `Str` is the library's UTF-8 error, `Panic` a panic; `Taken` where the crate reads or writes, at
-- count 0; `Ours` what the crate does not know
pub data Kind : Type 0 where
  ParseInsufficientData : Kind
  ParseInvalidData : Kind
  ParsePduInvalidFlags : Kind
  PduInvalidVector : Kind
  PduInvalidLength : Kind
  SourceNameNotNullTerminated : Kind
  Str : Kind
  ParseInvalidPriority : Kind
  ParseInvalidSyncAddr : Kind
  ParseInvalidUniverse : Kind
  ParseInvalidPage : Kind
  ParseInvalidUniverseOrder : Kind
  Panic : Kind
  Taken : Kind
  PackInvalidData : Kind
  IllegalUniverse : Kind
  Ours : Kind

unfoldable pub kind_of : ℕ → Kind
kind_of n =
    choose (n =? 1) ParseInsufficientData
    (choose (n =? 2) ParseInvalidData
    (choose (n =? 3) ParsePduInvalidFlags
    (choose (n =? 4) PduInvalidVector
    (choose (n =? 5) PduInvalidLength
    (choose (n =? 6) SourceNameNotNullTerminated
    (choose (n =? 7) Str
    (choose (n =? 8) ParseInvalidPriority
    (choose (n =? 9) ParseInvalidSyncAddr
    (choose (n =? 10) ParseInvalidUniverse
    (choose (n =? 11) ParseInvalidPage
    (choose (n =? 12) ParseInvalidUniverseOrder
    (choose (n =? 13) Panic
    (choose (n =? 14) ParseInsufficientData
    (choose (n =? 15) ParseInsufficientData
    (choose (n =? 16) ParseInsufficientData
    (choose (n =? 17) Taken
    (choose (n =? 20) ParseInvalidData
    (choose (n =? 24) PackInvalidData
    (choose (n =? 25) PackInvalidData
    (choose (n =? 26) PackInvalidData
    (choose (n =? 27) Taken
    (choose (n =? 30) IllegalUniverse
    Ours))))))))))))))))))))))
